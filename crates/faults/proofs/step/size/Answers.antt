-- `faults::step::size` meets its contract.
use native.Mathlib.Omega.{arith}
use Rattle.faults.proofs.LayoutLaws.{most-enough}
use Rattle.faults.proofs.step.size.Goals as goal

pub overflow_mul-result : goal.overflow_mul-result
overflow_mul-result c = rw c.part_size.ensures (omega (arith, most-enough c.args.s c.requires))

pub returns : goal.returns
returns c = rw c.part_size.ensures
