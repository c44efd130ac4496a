-- `mailbox::step::bin_word` meets its contract: one way out for the counter, one for the cells.
use Rattle.mailbox.proofs.HeardLaws.{word_first, word-later}
use Rattle.mailbox.proofs.step.bin_word.Goals as goal

pub returns-then-w-eq0 : goal.returns-then-w-eq0
returns-then-w-eq0 c = word_first _ _ c.if-w-eq0.true c.read_be2.ensures

pub returns : goal.returns
returns c = word-later _ _ c.args.w c.if-w-eq0.false c.cell_at.ensures c.read_be8.ensures
