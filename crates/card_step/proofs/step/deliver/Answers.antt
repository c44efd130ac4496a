-- `card_step::step::deliver` meets its contract.
use mathlib.Core.Path.{refl, ◌∙◌}
use Rattle.card_step.specs.CardParts.{CardParts}
use Rattle.card_step.proofs.PartsLaws.{takes-in, takes-not-from, takes-not-outside, full_is, delivered-taken, delivered-left}
use Rattle.card_step.proofs.step.deliver.Goals as goal
use Rattle.card_step.proofs.step.deliver.Goals.{in_default-via-in-Broadcast+else-number-nodes, in_default-via-in_default}

pub returns-in-Broadcast : goal.returns-in-Broadcast
returns-in-Broadcast c p e f =
    let k : CardParts = record { state = c.args.state; bins = c.args.bins.now } in
    delivered-taken p c.args.number k c.args.message.now c.args.cells (takes-in p c.args.number k c.phase-phase.ensures c.in-Broadcast.is e c.if-number-nodes.true) f
    (c.with_flags.ensures ∙ rw (c.due-due.ensures, full_is p c.args.number k c.args.nodes c.args.cells c.full.ensures c.is_last_empty-last.ensures e f)) c.fill_bin.ensures

pub returns-in_default : goal.returns-in_default
returns-in_default c p e f =
    let k : CardParts = record { state = c.args.state; bins = c.args.bins.now } in
    delivered-left p c.args.number k c.args.message.now
    (elim c.in_default.branch [
      | in_default-via-in-Broadcast+else-number-nodes w ↦ takes-not-from p c.args.number k e w.if-number-nodes.false
      | in_default-via-in_default w ↦ takes-not-outside p c.args.number k _ c.phase-phase.ensures w.in_default.not-Broadcast
    ])
    c.counted.ensures refl
