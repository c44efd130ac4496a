use mathlib.Core.Path.{◌≡◌}
use Prim.Native.Nat.{◌+◌, ◌≤◌}
use lib.ListN.{length}
use Rattle.array.specs.Index.{fill}
use Rattle.array.specs.Word.{be}
use Rattle.memory.specs.Size.{pattern_size, cell_at}
use Rattle.row_frame.proofs.step.fault_row.Given as goal

abbrev pub invariant-loop-c : goal.invariant-loop-c
invariant-loop-c l = (l.c ≤ l.count) × (length l.row ≡ length l.initial.row) × (l.row ≡ fill (λ d. be pattern_size l.faults (l.at + cell_at d)) l.c l.initial.row)
