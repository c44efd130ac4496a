-- `card_step::step::tick` meets its contract.
use mathlib.Core.Path.{◌∙◌}
use Rattle.card_step.specs.CardParts.{CardParts}
use Rattle.card_step.proofs.PartsLaws.{ticked-is}
use Rattle.card_step.proofs.step.tick.Goals as goal

pub returns : goal.returns
returns c =
    let k : CardParts = record { state = c.args.state; bins = c.args.bins.now } in
    (ticked-is c.args.plan.now c.args.sensors.now k c.moved-memory.ensures c.phase.ensures (c.number.ensures ∙ c.next-next.ensures) c.full.ensures c.with_flags-flagged.ensures c.close.ensures.0, c.close.ensures.1)
