-- `card::deliver` meets its contract: an answer for each way out.
use mathlib.Core.Path.{◌≡◌, refl, sym, ap, ◌∙◌}
use native.Mathlib.Omega.{arith}
use lib.ListN.{length}
use borrow.Author.Rules.{rules}
use borrow.Author.Tests.{eq-eqb, ne_eqb}
use Rattle.plan.proofs.AcceptedLaws.{shape-of-accepted}
use Rattle.answer.proofs.TestLaws.{handed-on}
use Rattle.plan_period.proofs.AnswerLaws.{accepted-of-period}
use Rattle.card_page.specs.declared.CardState.{CardState}
use Rattle.card_step.specs.CardParts.{CardParts, delivered}
use Rattle.card_step.specs.Calls.{delivery, card_done}
use Rattle.card.specs.Card.{most_bins, parts_of}
use Rattle.card_step.proofs.PartsLaws.{delivered-memory}
use Rattle.card.proofs.CallLaws.{plan-refused, second-refused, call-done, most-bins}
use Rattle.card.proofs.deliver.Goals as goal

pub returns-in_err-recovery_period : goal.returns-in_err-recovery_period
returns-in_err-recovery_period c =
    let refused = plan-refused c.args.plan c.args.card.now (delivery c.args.number c.args.message.now) (sym c.recovery_period.ensures ∙ c.in_err-recovery_period.was) in
    (handed-on c.from_residual.result c.from_residual.ensures.1 ∙ refused.0, refused.1)

pub message_size-requires : goal.message_size-requires
message_size-requires c = (shape-of-accepted _ (accepted-of-period _ (sym c.recovery_period.ensures ∙ c.in_ok-recovery_period.was))).cells-le

pub returns-then-message-message_size : goal.returns-then-message-message_size
returns-then-message-message_size c =
    second-refused c.args.plan c.args.card.now (delivery c.args.number c.args.message.now) (accepted-of-period _ (sym c.recovery_period.ensures ∙ c.in_ok-recovery_period.was))
    (ne_eqb _ _ (λ e. c.if-message-message_size.true (e ∙ sym c.message_size.ensures)))

pub deliver-next-requires : goal.deliver-next-requires
deliver-next-requires c =
    let s = shape-of-accepted _ (accepted-of-period _ (sym c.recovery_period.ensures ∙ c.in_ok-recovery_period.was)) in
    let long : length c.args.card.now.bins ≡ most_bins = search rules in
    (s.nodes-high, s.cells-le, omega (arith, long, most-bins s.nodes-high s.cells-le), c.if-message-message_size.false ∙ c.message_size.ensures)

pub set_page-requires : goal.set_page-requires
unfolding parts_of
set_page-requires c = ap (λ (k : CardParts). k.state.memory) (c.deliver-next.ensures c.args.plan refl refl) ∙ delivered-memory c.args.plan c.args.number _ c.args.message.now ∙ ap (λ (s : CardState). s.memory) c.state-before.ensures

pub returns : goal.returns
unfolding card_done
returns c =
    call-done c.args.plan c.args.card.now (delivery c.args.number c.args.message.now) (λ k. delivered c.args.plan c.args.number k c.args.message.now) (accepted-of-period _ (sym c.recovery_period.ensures ∙ c.in_ok-recovery_period.was))
    (eq-eqb _ _ (c.if-message-message_size.false ∙ c.message_size.ensures)) refl c.state-before.ensures (c.deliver-next.ensures c.args.plan refl refl) c.set_page.ensures
