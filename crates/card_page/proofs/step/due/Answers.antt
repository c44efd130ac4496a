use Rattle.card_page.specs.Page.{timer_due}
use borrow.Author.Rules.{rules}
use Rattle.card_page.proofs.step.due.Goals as goal

-- src/step.rt:43:5
pub bit_0-requires : goal.bit_0-requires
bit_0-requires c = search rules

-- src/step.rt:40:1
pub returns : goal.returns
unfolding timer_due
returns c = search rules
