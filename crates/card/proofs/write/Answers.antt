-- `card::write` meets its contract: an answer for each way out.
use mathlib.Core.Path.{refl, sym, ◌∙◌}
use Rattle.answer.proofs.TestLaws.{handed-on}
use Rattle.plan_period.proofs.AnswerLaws.{accepted-of-period}
use Rattle.card_page.specs.Page.{written_at}
use Rattle.card_step.specs.Calls.{writing, card_done}
use Rattle.card.proofs.CallLaws.{plan-refused, second-refused, call-done, write-outside, write-inside}
use Rattle.card.proofs.write.Goals as goal

pub returns-in_err-recovery_period : goal.returns-in_err-recovery_period
returns-in_err-recovery_period c =
    let refused = plan-refused c.args.plan c.args.card.now (writing c.args.at c.args.value) (sym c.recovery_period.ensures ∙ c.in_err-recovery_period.was) in
    (handed-on c.from_residual.result c.from_residual.ensures.1 ∙ refused.0, refused.1)

pub returns-then-at : goal.returns-then-at
returns-then-at c = second-refused c.args.plan c.args.card.now (writing c.args.at c.args.value) (accepted-of-period _ (sym c.recovery_period.ensures ∙ c.in_ok-recovery_period.was)) (write-outside c.args.plan c.args.at c.args.value c.if-at.true)

pub returns : goal.returns
unfolding card_done
returns c =
    call-done c.args.plan c.args.card.now (writing c.args.at c.args.value) (λ k. record { state = written_at k.state c.args.at c.args.value; bins = k.bins }) (accepted-of-period _ (sym c.recovery_period.ensures ∙ c.in_ok-recovery_period.was))
    (write-inside c.args.plan c.args.at c.args.value c.if-at.false) refl c.state.ensures (λ i. record { state = c.write-next.ensures i; bins = c.args.card.now.bins }) c.set_state.ensures
