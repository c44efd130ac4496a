-- `card_bins::step::slot_at` meets its contract.
use native.Mathlib.Omega.{arith}
use native.Mathlib.Nat.{mul-le-mul_right}
use Prim.Native.Nat.{◌+◌}
use Rattle.card_bins.proofs.step.slot_at.Goals as goal

pub overflow_mul-result : goal.overflow_mul-result
overflow_mul-result c = omega (arith, c.message_size.ensures, c.requires.1, mul-le-mul_right (1 + c.message_size.result) c.requires.0)

pub returns : goal.returns
returns c = rw c.message_size.ensures
