-- `memory::step::frame_before` meets its contract: the code is the definition.
use mathlib.Core.Path.{refl}
use native.Mathlib.Nat.{mod-lt}
use Rattle.memory.proofs.step.frame_before.Goals as goal

pub returns : goal.returns
returns c = (refl, mod-lt _ c.requires.0)
