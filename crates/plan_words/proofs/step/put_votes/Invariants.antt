-- `plan_words::step::put_votes` meets its contract: the words of the first g frames are stored.
use mathlib.Core.Path.{◌≡◌}
use mathlib.Core.Bool.{false}
use Prim.Native.Nat.{◌≤◌}
use lib.ListN.{length, get_or}
use Rattle.array.specs.Index.{fill}
use Rattle.plan.specs.Limits.{most_frames, most_cells}
use Rattle.plan.specs.Tables.{vote_place}
use Rattle.plan_words.specs.Words.{number_of_bits}
use Rattle.plan_words.proofs.step.put_votes.Given as goal

abbrev pub invariant-loop-g : goal.invariant-loop-g
invariant-loop-g l = (l.g ≤ most_frames) × (length l.initial.out ≡ most_frames) × (l.out ≡ fill (λ x. number_of_bits (λ c. get_or l.voted (vote_place x c) false) most_cells) l.g l.initial.out)
