use Rattle.array.specs.Bit.{bit}
use borrow.Author.Rules.{rules}
use Rattle.card_page.proofs.step.bit_1.Goals as goal

-- src/step.rt:34:1
pub returns : goal.returns
unfolding bit
returns c = search rules
