-- `node::vote` meets its contract, by each way out.
use mathlib.Core.Path.{sym, ◌∙◌}
use Rattle.plan.proofs.AcceptedLaws.{shape-of-accepted}
use Rattle.answer.proofs.TestLaws.{handed-on}
use Rattle.plan_period.proofs.AnswerLaws.{accepted-of-period}
use Rattle.node.specs.Answers.{vote_answer, vote_memory}
use Rattle.node.proofs.CallLaws.{plan-refused, length-refused, call-done}
use Rattle.node.proofs.vote.Goals as goal

pub returns-in_err-recovery_period : goal.returns-in_err-recovery_period
unfolding vote_answer vote_memory
returns-in_err-recovery_period c = plan-refused _ _ _ _ _ _ (sym c.recovery_period.ensures ∙ c.in_err-recovery_period.was) (handed-on c.from_residual.result c.from_residual.ensures.1)

pub bin_at-requires : goal.bin_at-requires
bin_at-requires c = let s = shape-of-accepted _ (accepted-of-period _ (sym c.recovery_period.ensures ∙ c.in_ok-recovery_period.was)) in (s.nodes-high, s.cells-le)

pub returns-then-mailbox-bin_at : goal.returns-then-mailbox-bin_at
unfolding vote_answer vote_memory
returns-then-mailbox-bin_at c = length-refused _ _ _ _ _ _ (accepted-of-period _ (sym c.recovery_period.ensures ∙ c.in_ok-recovery_period.was)) (λ e. c.if-mailbox-bin_at.true (e ∙ sym c.bin_at.ensures))

pub vote-vote-requires : goal.vote-vote-requires
vote-vote-requires c =
    let s = shape-of-accepted _ (accepted-of-period _ (sym c.recovery_period.ensures ∙ c.in_ok-recovery_period.was)) in
    (s.nodes-high, s.frames-pos, s.frames-le, s.cells-le, c.if-mailbox-bin_at.false ∙ c.bin_at.ensures)

pub returns : goal.returns
unfolding vote_answer vote_memory
returns c = call-done _ _ _ _ _ _ (accepted-of-period _ (sym c.recovery_period.ensures ∙ c.in_ok-recovery_period.was)) (c.if-mailbox-bin_at.false ∙ c.bin_at.ensures) c.vote-vote.ensures.1 c.vote-vote.ensures.0
