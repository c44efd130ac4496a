-- `memory::step::power_on` meets its contract: the code is the definition.
use mathlib.Core.Path.{refl}
use Rattle.memory.specs.Node.{powered_on}
use Rattle.memory.proofs.step.power_on.Goals as goal

pub returns : goal.returns
unfolding powered_on
returns c = refl
