-- `node::compute` meets its contract, by each way out.
use mathlib.Core.Path.{refl, sym, ◌∙◌}
use Rattle.answer.proofs.TestLaws.{handed-on}
use Rattle.plan_period.proofs.AnswerLaws.{accepted-of-period}
use Rattle.node.specs.Answers.{length_checked, compute_memory}
use Rattle.node.proofs.CallLaws.{plan-refused, length-refused, call-done}
use Rattle.node.proofs.compute.Goals as goal

pub returns-in_err-recovery_period : goal.returns-in_err-recovery_period
unfolding length_checked compute_memory
returns-in_err-recovery_period c = plan-refused _ _ _ _ _ _ (sym c.recovery_period.ensures ∙ c.in_err-recovery_period.was) (handed-on c.from_residual.result c.from_residual.ensures.1)

pub returns-then-sensors-wanted : goal.returns-then-sensors-wanted
unfolding length_checked compute_memory
returns-then-sensors-wanted c = length-refused _ _ _ _ _ _ (accepted-of-period _ (sym c.recovery_period.ensures ∙ c.in_ok-recovery_period.was)) c.if-sensors-wanted.true

pub compute-requires : goal.compute-requires
compute-requires c = (accepted-of-period _ (sym c.recovery_period.ensures ∙ c.in_ok-recovery_period.was), c.if-sensors-wanted.false)

pub returns : goal.returns
unfolding length_checked compute_memory
returns c = call-done _ _ _ _ _ _ (accepted-of-period _ (sym c.recovery_period.ensures ∙ c.in_ok-recovery_period.was)) c.if-sensors-wanted.false refl c.compute.ensures
