use Rattle.card_page.specs.Page.{with_flags}
use Rattle.card_page.proofs.step.with_flags.Goals as goal

pub returns : goal.returns
unfolding with_flags
returns c = cc
