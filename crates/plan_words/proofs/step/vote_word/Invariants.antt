-- `plan_words::step::vote_word` meets its contract: the word has the bits of the first c cells.
use mathlib.Core.Path.{◌≡◌}
use mathlib.Core.Bool.{false}
use Prim.Native.Nat.{◌≤◌}
use lib.ListN.{get_or}
use Rattle.plan.specs.Limits.{most_cells}
use Rattle.plan.specs.Tables.{vote_place}
use Rattle.plan_words.specs.Words.{number_of_bits}
use Rattle.plan_words.proofs.step.vote_word.Given as goal

abbrev pub invariant-loop-c : goal.invariant-loop-c
invariant-loop-c l = (l.c ≤ most_cells) × (l.word ≡ number_of_bits (λ x. get_or l.voted (vote_place l.frame x) false) l.c)
