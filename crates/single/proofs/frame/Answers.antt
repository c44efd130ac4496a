-- `single::frame` meets its contract, by each way out.
use mathlib.Core.Path.{sym, ◌∙◌}
use lib.Dec.{eqb}
use lib.ListN.{length}
use borrow.Author.Tests.{eqb-true}
use Rattle.array.proofs.TestLaws.{and_left, and_right}
use Rattle.answer.proofs.TestLaws.{handed-on}
use Rattle.plan_period.proofs.AnswerLaws.{accepted-of-period}
use Rattle.memory.proofs.StepLaws.{places-right, places-all}
use Rattle.single.proofs.CallLaws.{single-plan, single-length, single-done}
use Rattle.single.proofs.frame.Goals as goal

pub returns-in_err-recovery_period : goal.returns-in_err-recovery_period
returns-in_err-recovery_period c = single-plan _ _ _ _ (sym c.recovery_period.ensures ∙ c.in_err-recovery_period.was) (handed-on c.from_residual.result c.from_residual.ensures.1)

pub returns-then-not-sensors-wanted : goal.returns-then-not-sensors-wanted
returns-then-not-sensors-wanted c = single-length _ _ _ _ (accepted-of-period _ (sym c.recovery_period.ensures ∙ c.in_ok-recovery_period.was)) c.if-not-sensors-wanted.true

pub compute-next-requires : goal.compute-next-requires
compute-next-requires c =
    let a = c.args in
    (accepted-of-period _ (sym c.recovery_period.ensures ∙ c.in_ok-recovery_period.was), eqb-true _ _ (and_left (eqb (length a.sensors.now) a.plan.sensors) _ c.if-not-sensors-wanted.false))

pub setpoints-requires : goal.setpoints-requires
setpoints-requires c =
    let a = c.args in
    places-right _ (accepted-of-period _ (sym c.recovery_period.ensures ∙ c.in_ok-recovery_period.was)) (eqb-true _ _ (and_right (eqb (length a.sensors.now) a.plan.sensors) _ c.if-not-sensors-wanted.false))

pub returns : goal.returns
returns c =
    let a = c.args in
    single-done _ _ _ _ (accepted-of-period _ (sym c.recovery_period.ensures ∙ c.in_ok-recovery_period.was)) c.if-not-sensors-wanted.false c.compute-next.ensures
    (c.setpoints.ensures ∙ places-all _ _ _ (eqb-true _ _ (and_right (eqb (length a.sensors.now) a.plan.sensors) _ c.if-not-sensors-wanted.false)))
