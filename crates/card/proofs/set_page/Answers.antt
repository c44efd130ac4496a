-- `card::set_page` meets its contract.
use Rattle.card.specs.Card.{card_of}
use Rattle.card.proofs.set_page.Goals as goal

pub returns : goal.returns
unfolding card_of
returns c = let e = c.requires in cc
