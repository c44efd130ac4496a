-- `array::step::is_set` meets its contract.
use mathlib.Core.Path.{refl}
use Rattle.array.specs.Bit.{bit}
use Rattle.array.proofs.step.is_set.Goals as goal

pub returns : goal.returns
unfolding bit
returns c = refl
