use Rattle.card_page.specs.Page.{as_counts}
use Rattle.card_page.proofs.step.counted.Goals as goal

pub returns : goal.returns
unfolding as_counts
returns c = cc
