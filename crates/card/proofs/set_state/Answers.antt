-- `card::set_state` meets its contract.
use Rattle.card.specs.Card.{card_of}
use Rattle.card.proofs.set_state.Goals as goal

pub returns : goal.returns
unfolding card_of
returns c = cc
