use mathlib.Core.Path.{◌≡◌}
use Prim.Native.Nat.{◌+◌, ◌≤◌}
use lib.ListN.{length, get_or}
use Rattle.array.specs.Index.{fill}
use Rattle.plan.specs.Limits.{most_cells}
use Rattle.system_words.proofs.step.patterns.Given as goal

abbrev pub invariant-loop-c : goal.invariant-loop-c
invariant-loop-c l = (l.c ≤ most_cells) × (length l.cells ≡ most_cells) × (l.cells ≡ fill (λ d. get_or l.words (l.at + d) 0) l.c l.initial.cells)
