use Prim.Native.Nat.{◌-◌}
use Rattle.lines.proofs.LinesLaws.{Between}
use Rattle.lines.proofs.step.lines.Given as goal

abbrev pub invariant-loop-at : goal.invariant-loop-at
invariant-loop-at l = Between l.plan l.s l.first l.rest l.initial.rows.counters l.initial.rows.cells l.initial.rows.good l.initial.rows.seen l.initial.out l.k l.at l.to l.held l.faults l.rows.counters l.rows.cells l.rows.good l.rows.seen l.out

abbrev pub decreases-loop-at : goal.decreases-loop-at
decreases-loop-at l = l.len - l.at
