use mathlib.Core.Path.{◌≡◌}
use Prim.Native.Nat.{◌≤◌}
use Rattle.array.specs.Index.{fill}
use Rattle.row_plane.specs.Code.{handed_from}
use Rattle.row_plane.proofs.step.hand_on.Given as goal

abbrev pub invariant-loop-a : goal.invariant-loop-a
invariant-loop-a l = (l.a ≤ l.actuators) × (l.seen ≡ fill (handed_from l.table l.faults.sizes l.faults.mask l.faults.bytes.now l.cells l.initial.seen) l.a l.initial.seen)
