-- `counts::step::counts` meets its contract: the first i counts are as after the frame.
use mathlib.Core.Path.{sym}
use native.Mathlib.Omega.{arith}
use borrow.Author.Rules.{rules}
use Rattle.array.proofs.PlacesLaws.{fill_none}
use Rattle.array.proofs.LoopLaws.{stored-all}
use Rattle.counts.proofs.CountLaws.{count_next}
use Rattle.counts.proofs.step.counts.Goals as goal

pub loop-i-init : goal.loop-i-init
loop-i-init c = (search rules, sym (fill_none _ _))

pub loop-i-preserved : goal.loop-i-preserved
loop-i-preserved c =
    let a = c.args in
    let l = c.loop-i in
    (search rules, count_next a.good.now a.period a.mask l.i c.is_bad.ensures l.invariant.1 c.count_after.ensures)

pub returns : goal.returns
returns c = stored-all _ _ _ c.loop-i.invariant.1 (omega arith)
