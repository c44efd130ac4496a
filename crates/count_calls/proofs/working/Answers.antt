-- `count_calls::working` meets its contract, by each way out.
use mathlib.Core.Path.{sym, ap, ◌∙◌}
use mathlib.Core.Bool.{not}
use Rattle.answer.proofs.TestLaws.{handed-on}
use Rattle.plan_period.proofs.AnswerLaws.{accepted-of-period, period-is}
use Rattle.plan.proofs.AcceptedLaws.{shape-of-accepted}
use Rattle.array.proofs.TestLaws.{refused-test, passed-test}
use Rattle.counts.proofs.CountLaws.{mask-are}
use Rattle.count_calls.proofs.CallLaws.{working-plan, working-mask, working-done}
use Rattle.count_calls.proofs.working.Goals as goal

pub returns-in_err-period : goal.returns-in_err-period
returns-in_err-period c = working-plan _ _ _ (sym c.recovery_period.ensures ∙ c.in_err-period.was) (handed-on c.from_residual.result c.from_residual.ensures.1)

pub mask_ok-requires : goal.mask_ok-requires
mask_ok-requires c = (shape-of-accepted _ (accepted-of-period _ (sym c.recovery_period.ensures ∙ c.in_ok-period.was))).nodes-high

pub counts_ok-requires : goal.counts_ok-requires
counts_ok-requires c = (shape-of-accepted _ (accepted-of-period _ (sym c.recovery_period.ensures ∙ c.in_ok-period.was))).nodes-high

pub returns-then-not-mask_ok-counts_ok : goal.returns-then-not-mask_ok-counts_ok
returns-then-not-mask_ok-counts_ok c =
    let found = sym c.recovery_period.ensures ∙ c.in_ok-period.was in
    let a = c.args in
    let ok = accepted-of-period _ found in
    let tests = mask-are a.plan a.system a.mask (period-is _ found) c.mask_ok.ensures c.counts_ok.ensures in
    working-mask _ _ _ ok (refused-test tests (ap not c.if-not-mask_ok-counts_ok.true))

pub working-count-requires : goal.working-count-requires
working-count-requires c = (shape-of-accepted _ (accepted-of-period _ (sym c.recovery_period.ensures ∙ c.in_ok-period.was))).nodes-high

pub returns : goal.returns
returns c =
    let found = sym c.recovery_period.ensures ∙ c.in_ok-period.was in
    let a = c.args in
    let ok = accepted-of-period _ found in
    let tests = mask-are a.plan a.system a.mask (period-is _ found) c.mask_ok.ensures c.counts_ok.ensures in
    working-done _ _ _ ok (passed-test tests (ap not c.if-not-mask_ok-counts_ok.false)) (period-is _ found) c.working-count.ensures
