-- `card::read` meets its contract: an answer for each way out.
use mathlib.Core.Path.{sym, ◌∙◌}
use borrow.Author.Tests.{lt-ltb, le-ltb}
use Rattle.answer.proofs.TestLaws.{handed-on}
use Rattle.plan_period.proofs.AnswerLaws.{accepted-of-period}
use Rattle.card.proofs.CallLaws.{read-plan, read-outside, read_done}
use Rattle.card.proofs.read.Goals as goal

pub returns-in_err-recovery_period : goal.returns-in_err-recovery_period
returns-in_err-recovery_period c =
    handed-on c.from_residual.result c.from_residual.ensures.1 ∙ read-plan c.args.plan c.args.card.now c.args.at (sym c.recovery_period.ensures ∙ c.in_err-recovery_period.was)

pub returns-then-at-ge-PAGE : goal.returns-then-at-ge-PAGE
returns-then-at-ge-PAGE c = read-outside c.args.plan c.args.card.now c.args.at (accepted-of-period _ (sym c.recovery_period.ensures ∙ c.in_ok-recovery_period.was)) (le-ltb _ _ c.if-at-ge-PAGE.true)

pub returns : goal.returns
returns c = read_done c.args.plan c.args.card.now c.args.at (accepted-of-period _ (sym c.recovery_period.ensures ∙ c.in_ok-recovery_period.was)) (lt-ltb _ _ c.if-at-ge-PAGE.false) c.state.ensures c.read.ensures
