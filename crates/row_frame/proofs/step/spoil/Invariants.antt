use mathlib.Core.Path.{◌≡◌}
use Prim.Native.Nat.{◌+◌, ◌≤◌}
use Rattle.plan.specs.Limits.{most_nodes}
use Rattle.rows.specs.Code.{Through}
use Rattle.row_frame.specs.Code.{spoiled}
use Rattle.row_frame.proofs.step.spoil.Given as goal

abbrev pub invariant-loop-j : goal.invariant-loop-j
invariant-loop-j l = (l.j ≤ l.nodes) × (l.nodes ≤ most_nodes) × (l.rows.good ≡ l.initial.rows.good) × (l.rows.seen ≡ l.initial.rows.seen)
    × Through (l.j + 1) (spoiled l.faults.sizes l.faults.mask l.faults.bytes.now) l.initial.rows.counters l.initial.rows.cells l.rows.counters l.rows.cells
