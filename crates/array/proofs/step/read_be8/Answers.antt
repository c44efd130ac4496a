-- `array::step::read_be8` meets its contract.
use mathlib.Core.Path.{◌∙◌}
use Rattle.array.proofs.WordLaws.{be-eight}
use Rattle.array.proofs.step.read_be8.Goals as goal

pub returns : goal.returns
returns c = c.from_be_bytes.ensures ∙ be-eight c.args.s.now c.args.at
