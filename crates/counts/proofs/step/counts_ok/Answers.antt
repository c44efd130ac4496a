-- `counts::step::counts_ok` meets its contract: the first i counts are not above the period.
use mathlib.Core.Path.{sym}
use native.Mathlib.Omega.{arith}
use borrow.Author.Rules.{rules}
use Rattle.array.proofs.IndexLaws.{all_below-none}
use Rattle.array.proofs.LoopLaws.{all-passed}
use Rattle.counts.proofs.CountLaws.{counts-more, counts-fail}
use Rattle.counts.proofs.step.counts_ok.Goals as goal

pub loop-i-init : goal.loop-i-init
loop-i-init c = (search rules, all_below-none _)

pub returns-then-above : goal.returns-then-above
returns-then-above c =
    let a = c.args in
    counts-fail a.good.now a.period c.loop-i.i a.nodes c.loop-i-test.true c.above.ensures c.if-above.true

pub loop-i-preserved : goal.loop-i-preserved
loop-i-preserved c =
    let a = c.args in
    let l = c.loop-i in
    (search rules, counts-more a.good.now a.period l.i l.invariant.1 c.above.ensures c.if-above.false)

pub returns : goal.returns
returns c = sym (all-passed _ c.loop-i.invariant.1 (omega arith))
