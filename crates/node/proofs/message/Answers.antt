-- `node::message` meets its contract, by each way out.
use mathlib.Core.Path.{refl, sym, ◌∙◌}
use Rattle.plan.proofs.AcceptedLaws.{shape-of-accepted}
use Rattle.answer.proofs.TestLaws.{handed-on}
use Rattle.plan_period.proofs.AnswerLaws.{accepted-of-period}
use Rattle.node.specs.Answers.{length_checked, message_place}
use Rattle.node.proofs.CallLaws.{plan-refused, length-refused, call-done}
use Rattle.node.proofs.message.Goals as goal

pub returns-in_err-recovery_period : goal.returns-in_err-recovery_period
unfolding length_checked message_place
returns-in_err-recovery_period c = plan-refused _ _ _ _ _ _ (sym c.recovery_period.ensures ∙ c.in_err-recovery_period.was) (handed-on c.from_residual.result c.from_residual.ensures.1)

pub message_size-requires : goal.message_size-requires
message_size-requires c = (shape-of-accepted _ (accepted-of-period _ (sym c.recovery_period.ensures ∙ c.in_ok-recovery_period.was))).cells-le

pub returns-then-out-message_size : goal.returns-then-out-message_size
unfolding length_checked message_place
returns-then-out-message_size c = length-refused _ _ _ _ _ _ (accepted-of-period _ (sym c.recovery_period.ensures ∙ c.in_ok-recovery_period.was)) (λ e. c.if-out-message_size.true (e ∙ sym c.message_size.ensures))

pub message-requires : goal.message-requires
message-requires c =
    let s = shape-of-accepted _ (accepted-of-period _ (sym c.recovery_period.ensures ∙ c.in_ok-recovery_period.was)) in
    (s.frames-pos, s.frames-le, s.cells-le, c.if-out-message_size.false ∙ c.message_size.ensures)

pub returns : goal.returns
unfolding length_checked message_place
returns c = call-done _ _ _ _ _ _ (accepted-of-period _ (sym c.recovery_period.ensures ∙ c.in_ok-recovery_period.was)) (c.if-out-message_size.false ∙ c.message_size.ensures) refl c.message.ensures
