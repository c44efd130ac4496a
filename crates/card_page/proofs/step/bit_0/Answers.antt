use Rattle.card_page.proofs.PageLaws.{bit-zero}
use Rattle.card_page.proofs.step.bit_0.Goals as goal

pub returns : goal.returns
returns c = bit-zero _
