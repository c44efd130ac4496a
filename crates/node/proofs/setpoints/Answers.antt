-- `node::setpoints` meets its contract, by each way out.
use mathlib.Core.Path.{refl, sym, ◌∙◌}
use Rattle.answer.proofs.TestLaws.{handed-on}
use Rattle.plan_period.proofs.AnswerLaws.{accepted-of-period}
use Rattle.memory.proofs.StepLaws.{places-right, places-all}
use Rattle.node.specs.Answers.{length_checked, setpoint_place}
use Rattle.node.proofs.CallLaws.{plan-refused, length-refused, call-done}
use Rattle.node.proofs.setpoints.Goals as goal

pub returns-in_err-recovery_period : goal.returns-in_err-recovery_period
unfolding length_checked setpoint_place
returns-in_err-recovery_period c = plan-refused _ _ _ _ _ _ (sym c.recovery_period.ensures ∙ c.in_err-recovery_period.was) (handed-on c.from_residual.result c.from_residual.ensures.1)

pub returns-then-out-wanted : goal.returns-then-out-wanted
unfolding length_checked setpoint_place
returns-then-out-wanted c = length-refused _ _ _ _ _ _ (accepted-of-period _ (sym c.recovery_period.ensures ∙ c.in_ok-recovery_period.was)) c.if-out-wanted.true

pub setpoints-requires : goal.setpoints-requires
setpoints-requires c = places-right _ (accepted-of-period _ (sym c.recovery_period.ensures ∙ c.in_ok-recovery_period.was)) c.if-out-wanted.false

pub returns : goal.returns
unfolding length_checked setpoint_place
returns c = call-done _ _ _ _ _ _ (accepted-of-period _ (sym c.recovery_period.ensures ∙ c.in_ok-recovery_period.was)) c.if-out-wanted.false refl (c.setpoints.ensures ∙ places-all _ _ _ c.if-out-wanted.false)
