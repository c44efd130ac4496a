-- `word::step::read_le4` meets its contract.
use mathlib.Core.Path.{◌∙◌}
use Rattle.word.proofs.WordLaws.{word-four}
use Rattle.word.proofs.step.read_le4.Goals as goal

pub returns : goal.returns
returns c = c.from_le_bytes.ensures ∙ word-four c.args.s.now c.args.i
