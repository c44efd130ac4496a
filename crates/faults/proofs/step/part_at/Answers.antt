-- `faults::step::part_at` meets its contract.
use native.Mathlib.Omega.{arith}
use Rattle.faults.proofs.LayoutLaws.{at_most}
use Rattle.faults.proofs.step.part_at.Goals as goal

pub overflow_mul-result : goal.overflow_mul-result
overflow_mul-result c = rw c.part_size.ensures (omega (arith, at_most c.args.s c.requires.0 c.args.i c.requires.1))

pub returns : goal.returns
returns c = rw c.part_size.ensures
