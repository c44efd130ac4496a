-- `listing::next` meets its contract: an answer for each way out.
use mathlib.Core.Path.{sym, ◌∙◌}
use native.Mathlib.Omega.{arith}
use borrow.Author.Tests.{eqb-true, eqb-false}
use Rattle.answer.proofs.TestLaws.{handed-on}
use Rattle.plan_period.proofs.AnswerLaws.{accepted-of-period, period-is}
use Rattle.plan.proofs.AcceptedLaws.{shape-of-accepted}
use Rattle.counts.proofs.CountLaws.{counts-are}
use Rattle.lines.proofs.StepLaws.{front_length}
use Rattle.listing.proofs.CallLaws.{next-plan, next-counts, next-room, next-ended, next-taken}
use Rattle.listing.proofs.next.Goals as goal

pub returns-in_err-period : goal.returns-in_err-period
returns-in_err-period c =
    let a = c.args in
    let refused = next-plan a.run.now a.rest.now a.out.now (sym c.recovery_period.ensures ∙ c.in_err-period.was) in
    (handed-on c.from_residual.result c.from_residual.ensures.1 ∙ refused.0, refused.1, refused.2)

pub counts_ok-requires : goal.counts_ok-requires
counts_ok-requires c = (shape-of-accepted _ (accepted-of-period _ (sym c.recovery_period.ensures ∙ c.in_ok-period.was))).nodes-high

pub returns-then-not-counts_ok : goal.returns-then-not-counts_ok
returns-then-not-counts_ok c =
    let a = c.args in
    let p = a.run.now.plan in
    let n = sym c.recovery_period.ensures ∙ c.in_ok-period.was in
    let ok = accepted-of-period p n in
    let tests = counts-are p a.run.now.system 0 (period-is p n) c.counts_ok.ensures in
    next-counts a.run.now a.rest.now a.out.now ok (sym tests ∙ c.if-not-counts_ok.true)

pub printed_size-size-requires : goal.printed_size-size-requires
printed_size-size-requires c = (shape-of-accepted _ (accepted-of-period _ (sym c.recovery_period.ensures ∙ c.in_ok-period.was))).actuators-le

pub returns-then-out-size : goal.returns-then-out-size
returns-then-out-size c =
    let a = c.args in
    let p = a.run.now.plan in
    let n = sym c.recovery_period.ensures ∙ c.in_ok-period.was in
    let ok = accepted-of-period p n in
    let tests = counts-are p a.run.now.system 0 (period-is p n) c.counts_ok.ensures in
    let counts = sym tests ∙ c.if-not-counts_ok.false in
    let size = c.printed_size-size in
    next-room a.run.now a.rest.now a.out.now ok counts (omega (arith, size.ensures, c.if-out-size.true))

pub returns-then-is_empty : goal.returns-then-is_empty
returns-then-is_empty c =
    let a = c.args in
    let p = a.run.now.plan in
    let n = sym c.recovery_period.ensures ∙ c.in_ok-period.was in
    let ok = accepted-of-period p n in
    let tests = counts-are p a.run.now.system 0 (period-is p n) c.counts_ok.ensures in
    let counts = sym tests ∙ c.if-not-counts_ok.false in
    let size = c.printed_size-size in
    next-ended a.run.now a.rest.now a.out.now ok counts (omega (arith, size.ensures, c.if-out-size.false)) (eqb-true _ _ (sym c.is_empty.ensures ∙ c.if-is_empty.true))

pub next_line-requires : goal.next_line-requires
next_line-requires c =
    let a = c.args in
    let p = a.run.now.plan in
    let n = sym c.recovery_period.ensures ∙ c.in_ok-period.was in
    let ok = accepted-of-period p n in
    let size = c.printed_size-size in
    (ok, period-is p n, front_length a.out.now size.ensures (omega (arith, size.ensures, c.if-out-size.false)))

pub returns : goal.returns
returns c =
    let a = c.args in
    let p = a.run.now.plan in
    let n = sym c.recovery_period.ensures ∙ c.in_ok-period.was in
    let ok = accepted-of-period p n in
    let tests = counts-are p a.run.now.system 0 (period-is p n) c.counts_ok.ensures in
    let counts = sym tests ∙ c.if-not-counts_ok.false in
    let size = c.printed_size-size in
    next-taken a.run.now a.rest.now a.out.now ok counts (omega (arith, size.ensures, c.if-out-size.false)) size.ensures (eqb-false _ _ (sym c.is_empty.ensures ∙ c.if-is_empty.false)) c.next_line.ensures.0 c.next_line.ensures.1 c.next_line.ensures.2
