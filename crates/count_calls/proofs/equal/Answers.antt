-- `count_calls::equal` meets its contract, by each way out.
use mathlib.Core.Path.{sym, refl, ap, ◌∙◌}
use mathlib.Core.Bool.{not}
use Rattle.answer.proofs.TestLaws.{handed-on}
use Rattle.plan_period.proofs.AnswerLaws.{accepted-of-period, period-is}
use Rattle.plan.proofs.AcceptedLaws.{shape-of-accepted}
use Rattle.array.proofs.TestLaws.{refused-test, passed-test}
use Rattle.counts.proofs.CountLaws.{counts-are}
use Rattle.rows.proofs.RowLaws.{equal_is}
use Rattle.count_calls.proofs.CallLaws.{equal-plan, equal-counts, equal-done}
use Rattle.count_calls.proofs.equal.Goals as goal

pub returns-in_err-period : goal.returns-in_err-period
returns-in_err-period c = equal-plan _ _ _ (sym c.recovery_period.ensures ∙ c.in_err-period.was) (handed-on c.from_residual.result c.from_residual.ensures.1)

pub counts_ok-requires : goal.counts_ok-requires
counts_ok-requires c = (shape-of-accepted _ (accepted-of-period _ (sym c.recovery_period.ensures ∙ c.in_ok-period.was))).nodes-high

pub returns-then-not-counts_ok : goal.returns-then-not-counts_ok
returns-then-not-counts_ok c =
    let found = sym c.recovery_period.ensures ∙ c.in_ok-period.was in
    let a = c.args in
    let ok = accepted-of-period _ found in
    let tests = counts-are a.plan a.system 0 (period-is _ found) c.counts_ok.ensures in
    equal-counts _ _ _ ok (refused-test tests (ap not c.if-not-counts_ok.true))

pub equal-count-requires : goal.equal-count-requires
equal-count-requires c =
    let s = shape-of-accepted _ (accepted-of-period _ (sym c.recovery_period.ensures ∙ c.in_ok-period.was)) in
    (s.nodes-high, s.cells-le)

pub returns : goal.returns
returns c =
    let found = sym c.recovery_period.ensures ∙ c.in_ok-period.was in
    let a = c.args in
    let ok = accepted-of-period _ found in
    let tests = counts-are a.plan a.system 0 (period-is _ found) c.counts_ok.ensures in
    equal-done _ _ _ ok (passed-test tests (ap not c.if-not-counts_ok.false))
    (c.equal-count.ensures ∙ equal_is a.plan a.system a.memory _ _ _ _ a.plan.nodes c.beside-rows.ensures.0 c.beside-rows.ensures.1 refl (shape-of-accepted _ ok).nodes-high)
