use Rattle.card_page.specs.Page.{bins_full}
use borrow.Author.Rules.{rules}
use Rattle.card_page.proofs.step.full.Goals as goal

-- src/step.rt:49:5
pub bit_1-requires : goal.bit_1-requires
bit_1-requires c = search rules

-- src/step.rt:46:1
pub returns : goal.returns
unfolding bins_full
returns c = search rules
