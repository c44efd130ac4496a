use Rattle.card_page.specs.Page.{phase_of}
use borrow.Author.Rules.{rules}
use Rattle.card_page.proofs.step.phase.Goals as goal

-- src/step.rt:16:1
pub returns : goal.returns
unfolding phase_of
returns c = search rules
