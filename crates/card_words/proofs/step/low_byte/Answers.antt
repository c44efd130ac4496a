-- `card_words::step::low_byte` meets its contract.
use Rattle.card_words.proofs.WordsLaws.{byte-is}
use Rattle.card_words.proofs.step.low_byte.Goals as goal

pub returns : goal.returns
returns c = byte-is _ _ c.entry_or.ensures
