-- `card::state` meets its contract.
use Rattle.card.specs.Card.{parts_of}
use Rattle.card.proofs.state.Goals as goal

pub returns : goal.returns
unfolding parts_of
returns c = cc
