-- `card_step::step::power_on` meets its contract.
use Rattle.card_step.specs.CardParts.{powered_state}
use Rattle.card_step.proofs.step.power_on.Goals as goal

pub returns : goal.returns
unfolding powered_state
returns c = rw (c.power_on-memory.ensures, c.number.ensures)
