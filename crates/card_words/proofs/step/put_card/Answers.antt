-- `card_words::step::put_card` meets its contract.
use Rattle.card_words.proofs.WordsLaws.{card-put}
use Rattle.card_words.proofs.step.put_card.Goals as goal

pub returns : goal.returns
returns c = card-put c.args.card c.args.words.now c.put_memory.ensures c.put_word.ensures c.put_word-2.ensures c.put_word-3.ensures
