-- `card_words::step::bare` meets its contract.
use mathlib.Core.List.{[]}
use Rattle.card_words.proofs.WordsLaws.{card-made, zeros-made}
use Rattle.card_words.proofs.step.bare.Goals as goal

pub returns : goal.returns
returns c = card-made c.args.words.now [] c.memory-memory.ensures c.low_byte.ensures c.low_byte-2.ensures c.low_byte-3.ensures zeros-made
