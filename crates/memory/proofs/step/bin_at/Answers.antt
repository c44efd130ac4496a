-- `memory::step::bin_at` meets its contract: the code is the definition.
use native.Mathlib.Nat.{mul-le-mul_right}
use native.Mathlib.Omega.{arith}
use Rattle.memory.proofs.step.bin_at.Goals as goal

pub overflow_mul-result : goal.overflow_mul-result
overflow_mul-result c = omega (arith, c.bin_size.ensures, c.requires.1, mul-le-mul_right c.bin_size.result c.requires.0)

pub returns : goal.returns
returns c = rw c.bin_size.ensures
