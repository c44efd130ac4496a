-- `histories::print` meets its contract: the text refused, the plan refused by 11, or the lines of its histories.
use mathlib.Core.Path.{sym, ◌∙◌}
use native.Mathlib.Omega.{arith}
use borrow.Author.Tests.{not-true, not-false}
use Rattle.histories.proofs.ListingLaws.{print-refused, print-outside, print-fits, print-count, print-lines}
use mathlib.Core.Path.{ap}
use mathlib.Core.Bool.{not}
use Rattle.histories.proofs.print.Goals as goal

pub returns-in-Err : goal.returns-in-Err
returns-in-Err c = print-refused c.args.text.now c.args.out.now (sym c.read.ensures ∙ c.in-Err.is) c.requires.1 c.write_refusal.ensures

pub returns-then-not-limits_ok : goal.returns-then-not-limits_ok
returns-then-not-limits_ok c =
    let e = sym c.read.ensures ∙ c.in-Ok.is in
    let limits = c.limits_ok in
    print-outside c.args.text.now c.args.out.now _ e (sym limits.ensures ∙ not-true limits.result (ap not c.if-not-limits_ok.true)) c.requires.1 c.write_refusal-then-not-limits_ok.ensures

pub put_all-size-requires : goal.put_all-size-requires
put_all-size-requires c =
    let e = sym c.read.ensures ∙ c.in-Ok.is in
    let limits = c.limits_ok in
    let l = sym limits.ensures ∙ not-false limits.result (ap not c.if-not-limits_ok.false) in
    (l, omega (arith, c.requires.0, print-fits c.args.text.now c.args.out.now _ e l))

pub write_histories-requires : goal.write_histories-requires
write_histories-requires c =
    let e = sym c.read.ensures ∙ c.in-Ok.is in
    let limits = c.limits_ok in
    let put = c.put_all-size in
    let l = sym limits.ensures ∙ not-false limits.result (ap not c.if-not-limits_ok.false) in
    let few = print-count c.args.text.now c.args.out.now _ e l put.ensures.0 in
    (few, omega (arith, few, c.requires.0, put.auto.out), omega (arith, few, c.requires.1))

pub overflow_mul-result : goal.overflow_mul-result
overflow_mul-result c =
    let e = sym c.read.ensures ∙ c.in-Ok.is in
    let limits = c.limits_ok in
    let l = sym limits.ensures ∙ not-false limits.result (ap not c.if-not-limits_ok.false) in
    omega (arith, print-count c.args.text.now c.args.out.now _ e l c.put_all-size.ensures.0)

pub returns : goal.returns
returns c =
    let e = sym c.read.ensures ∙ c.in-Ok.is in
    let limits = c.limits_ok in
    let put = c.put_all-size in
    let l = sym limits.ensures ∙ not-false limits.result (ap not c.if-not-limits_ok.false) in
    print-lines c.args.text.now c.args.out.now _ e l put.ensures.0 c.requires.1 c.args.masks.now put.ensures.1 c.write_histories.ensures
