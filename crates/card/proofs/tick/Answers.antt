-- `card::tick` meets its contract: an answer for each way out.
use mathlib.Core.Path.{◌≡◌, refl, sym, ◌∙◌}
use native.Mathlib.Omega.{arith}
use lib.Dec.{eqb}
use lib.ListN.{length}
use borrow.Author.Rules.{rules}
use borrow.Author.Tests.{eqb-true}
use Rattle.array.proofs.TestLaws.{and_left, and_right}
use Rattle.plan.proofs.AcceptedLaws.{shape-of-accepted}
use Rattle.answer.proofs.TestLaws.{handed-on}
use Rattle.plan_period.proofs.AnswerLaws.{accepted-of-period}
use Rattle.card_step.specs.CardParts.{ticked}
use Rattle.card_step.specs.Calls.{ticking, card_done}
use Rattle.card.specs.Card.{most_bins, parts_of}
use Rattle.card.proofs.CallLaws.{plan-refused, second-refused, call-done, place-plan, place-second, place-done, parts_is, lengths-wrong, lengths-right, most-bins}
use Rattle.card.proofs.tick.Goals as goal

pub returns-in_err-recovery_period : goal.returns-in_err-recovery_period
returns-in_err-recovery_period c =
    let e = sym c.recovery_period.ensures ∙ c.in_err-recovery_period.was in
    let refused = plan-refused c.args.plan c.args.card.now (ticking c.args.sensors.now c.args.place.now) e in
    (handed-on c.from_residual.result c.from_residual.ensures.1 ∙ refused.0, refused.1, place-plan c.args.plan (parts_of c.args.card.now) c.args.sensors.now c.args.place.now e)

pub returns-then-sensors-wanted : goal.returns-then-sensors-wanted
returns-then-sensors-wanted c =
    let e = accepted-of-period _ (sym c.recovery_period.ensures ∙ c.in_ok-recovery_period.was) in
    let w = lengths-wrong c.args.plan c.args.sensors.now c.args.place.now c.if-sensors-wanted.true in
    let refused = second-refused c.args.plan c.args.card.now (ticking c.args.sensors.now c.args.place.now) e w in
    (refused.0, refused.1, place-second c.args.plan (parts_of c.args.card.now) c.args.sensors.now c.args.place.now e w)

pub tick-next-requires : goal.tick-next-requires
tick-next-requires c =
    let e = accepted-of-period _ (sym c.recovery_period.ensures ∙ c.in_ok-recovery_period.was) in
    let s = shape-of-accepted _ e in
    let long : length c.args.card.now.bins ≡ most_bins = search rules in
    (e, eqb-true _ _ (and_left (eqb (length c.args.sensors.now) c.args.plan.sensors) _ (lengths-right c.args.plan c.args.sensors.now c.args.place.now c.if-sensors-wanted.false)), eqb-true _ _ (and_right (eqb (length c.args.sensors.now) c.args.plan.sensors) _ (lengths-right c.args.plan c.args.sensors.now c.args.place.now c.if-sensors-wanted.false)), omega (arith, long, most-bins s.nodes-high s.cells-le))

pub returns : goal.returns
unfolding card_done
returns c =
    let e = accepted-of-period _ (sym c.recovery_period.ensures ∙ c.in_ok-recovery_period.was) in
    let l = lengths-right c.args.plan c.args.sensors.now c.args.place.now c.if-sensors-wanted.false in
    let done = call-done c.args.plan c.args.card.now (ticking c.args.sensors.now c.args.place.now) (ticked c.args.plan c.args.sensors.now) e l refl c.state-before.ensures c.tick-next.ensures.0 c.set_state.ensures in
    (done.0, done.1, place-done c.args.plan (parts_of c.args.card.now) c.args.sensors.now c.args.place.now e l (parts_is c.args.card.now c.state-before.ensures) c.tick-next.ensures.1)
