use Rattle.card_page.proofs.PageLaws.{named-rest}
use Rattle.card_page.proofs.step.named.Goals as goal

pub returns : goal.returns
returns c = named-rest _
