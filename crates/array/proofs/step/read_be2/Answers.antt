-- `array::step::read_be2` meets its contract.
use mathlib.Core.Path.{◌∙◌}
use Rattle.array.proofs.WordLaws.{be-two}
use Rattle.array.proofs.step.read_be2.Goals as goal

pub returns : goal.returns
returns c = c.from_be_bytes.ensures ∙ be-two c.args.s.now c.args.at
