-- `word::step::read_le8` meets its contract.
use mathlib.Core.Path.{◌∙◌}
use Rattle.word.proofs.WordLaws.{word-eight}
use Rattle.word.proofs.step.read_le8.Goals as goal

pub returns : goal.returns
returns c = c.from_le_bytes.ensures ∙ word-eight c.args.s.now c.args.i
