-- `system_words::step::put_word` meets its contract: a store past the end changes nothing.
use mathlib.Core.Path.{sym}
use lib.Seq.{set_out}
use Rattle.system_words.proofs.step.put_word.Goals as goal

pub returns-else-i-words : goal.returns-else-i-words
returns-else-i-words c = sym (set_out _ _ _ c.if-i-words.false)
