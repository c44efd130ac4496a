-- `history::histories` meets its contract: refused by 7, 11 or 8, or the histories at the front of the buffer.
use mathlib.Core.Path.{sym, ◌∙◌}
use native.Mathlib.Omega.{arith}
use Rattle.answer.proofs.TestLaws.{handed-on}
use Rattle.plan_period.proofs.AnswerLaws.{accepted-of-period, period-is}
use Rattle.history.proofs.CallLaws.{count-is, size_is, size_fits, front-placed, histories-refused, histories-outside, histories-short, histories-done}
use Rattle.history.proofs.histories.Goals as goal

pub returns-in_err-period : goal.returns-in_err-period
returns-in_err-period c =
    let found = histories-refused c.args.plan c.args.frames c.args.out.now (sym c.recovery_period.ensures ∙ c.in_err-period.was) in
    (handed-on c.from_residual.result c.from_residual.ensures.1 ∙ found.0, found.1)

pub returns-then-not-limits_ok : goal.returns-then-not-limits_ok
returns-then-not-limits_ok c =
    let limits = c.limits_ok in
    let p = c.args.plan in
    let a = accepted-of-period p (sym c.recovery_period.ensures ∙ c.in_ok-period.was) in
    histories-outside p c.args.frames c.args.out.now a (sym limits.ensures ∙ c.if-not-limits_ok.true)

pub count_all-count-requires : goal.count_all-count-requires
count_all-count-requires c = sym c.limits_ok.ensures ∙ c.if-not-limits_ok.false

pub overflow_mul-count : goal.overflow_mul-count
overflow_mul-count c =
    let limits = c.limits_ok in
    let l = sym limits.ensures ∙ c.if-not-limits_ok.false in
    omega (arith, size_fits c.args.plan c.args.frames _ c.count_all-count.ensures l)

pub returns-then-out-count : goal.returns-then-out-count
returns-then-out-count c =
    let limits = c.limits_ok in
    let found = sym c.recovery_period.ensures ∙ c.in_ok-period.was in
    let p = c.args.plan in
    let a = accepted-of-period p found in
    let l = sym limits.ensures ∙ c.if-not-limits_ok.false in
    let e = period-is p found in
    histories-short p c.args.frames c.args.out.now a l (count-is p c.args.frames e c.count_all-count.ensures) c.if-out-count.true

pub put_all-requires : goal.put_all-requires
put_all-requires c =
    let limits = c.limits_ok in
    let l = sym limits.ensures ∙ c.if-not-limits_ok.false in
    (l, omega (arith, c.if-out-count.false, size_is c.args.plan c.args.frames _ c.count_all-count.ensures))

pub returns : goal.returns
returns c =
    let limits = c.limits_ok in
    let found = sym c.recovery_period.ensures ∙ c.in_ok-period.was in
    let p = c.args.plan in
    let a = accepted-of-period p found in
    let l = sym limits.ensures ∙ c.if-not-limits_ok.false in
    let e = period-is p found in
    let s = c.args.out.now in
    histories-done p c.args.frames s a l (count-is p c.args.frames e c.count_all-count.ensures) c.if-out-count.false (c.put_all.ensures.1 ∙ front-placed p c.args.frames e s)
