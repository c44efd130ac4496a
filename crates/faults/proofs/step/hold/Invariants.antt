use mathlib.Core.Path.{◌≡◌}
use Prim.Native.Nat.{◌-◌, ◌*◌, ◌≤◌}
use lib.ListN.{length}
use Rattle.array.specs.Index.{fill as filled_with}
use Rattle.plan.specs.Limits.{most_nodes}
use Rattle.faults.proofs.LayoutLaws.{most_part, HeldBy, held_now}
use Rattle.faults.proofs.step.hold.Given as goal

abbrev pub invariant-loop-j : goal.invariant-loop-j
invariant-loop-j l = (l.j ≤ l.nodes) × (l.nodes ≤ most_nodes) × (l.size ≤ most_part) × (length l.initial.held ≡ most_nodes) × (length l.faults ≡ l.nodes * l.size) × (l.held ≡ filled_with (held_now l.mask l.x l.initial.held) l.j l.initial.held) × HeldBy l.nodes l.size l.held l.faults
