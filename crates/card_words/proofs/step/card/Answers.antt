-- `card_words::step::card` meets its contract.
use Rattle.card_words.proofs.WordsLaws.{card-made}
use Rattle.card_words.proofs.step.card.Goals as goal

pub returns : goal.returns
returns c = card-made c.args.words.now c.args.bytes.now c.memory-memory.ensures c.low_byte.ensures c.low_byte-2.ensures c.low_byte-3.ensures c.copy_bins.ensures
