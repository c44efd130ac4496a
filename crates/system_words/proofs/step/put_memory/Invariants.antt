use mathlib.Core.Path.{◌≡◌}
use Prim.Native.Nat.{◌≤◌}
use lib.ListN.{get_or}
use Rattle.plan.specs.Limits.{most_cells}
use Rattle.system_words.specs.Words.{stored_from}
use Rattle.system_words.proofs.step.put_memory.Given as goal

abbrev pub invariant-loop-c : goal.invariant-loop-c
invariant-loop-c l = (l.c ≤ most_cells) × (l.words ≡ stored_from (λ d. get_or l.memory.cells d 0) l.first l.c l.initial.words)
