-- `faults::step::setpoint_at` meets its contract.
use native.Mathlib.Omega.{arith}
use Rattle.faults.proofs.LayoutLaws.{at_most, bins-most}
use Rattle.faults.proofs.step.setpoint_at.Goals as goal

pub overflow_add-result : goal.overflow_add-result
overflow_add-result c = omega (arith, at_most c.args.s c.requires.0 c.args.i (omega (arith, c.requires.1)), c.requires.0.cells)

pub overflow_add-result-2 : goal.overflow_add-result-2
overflow_add-result-2 c = omega (arith, at_most c.args.s c.requires.0 c.args.i (omega (arith, c.requires.1)), bins-most c.args.s c.requires.0 c.args.s.nodes c.requires.0.nodes, c.requires.0.cells)

pub overflow_add-result-3 : goal.overflow_add-result-3
overflow_add-result-3 c = omega (arith, at_most c.args.s c.requires.0 c.args.i (omega (arith, c.requires.1)), bins-most c.args.s c.requires.0 c.args.s.nodes c.requires.0.nodes, c.requires.0.cells, c.requires.0.actuators)
