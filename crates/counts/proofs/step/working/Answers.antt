-- `counts::step::working` meets its contract: the loop has counted among the first i nodes.
use mathlib.Core.Path.{sym, ◌∙◌}
use native.Mathlib.Omega.{arith}
use borrow.Author.Rules.{rules}
use Rattle.array.proofs.IndexLaws.{how_many-none}
use Rattle.array.proofs.LoopLaws.{counted-hit, counted-miss, counted-all}
use Rattle.system.specs.Counts.{is_working}
use Rattle.counts.proofs.CountLaws.{works}
use Rattle.counts.proofs.step.working.Goals as goal
use Rattle.counts.proofs.step.working.Goals.{else-is_bad-is_full, then-is_bad-is_full}

pub loop-i-init : goal.loop-i-init
loop-i-init c = (search rules, search rules, sym (how_many-none _), search rules)

pub loop-i-preserved : goal.loop-i-preserved
loop-i-preserved c =
    let l = c.loop-i in
    let a = c.args in
    let q = is_working a.period a.mask a.good.now in
    let s = works a.good.now a.period a.mask l.i c.is_bad.ensures c.is_full.ensures in
    elim c.if-is_bad-is_full.branch [ then-is_bad-is_full w ↦ (search rules, search rules, w.count-is ∙ counted-hit q l.i l.invariant.2 (s ∙ w.if-is_bad-is_full.true), omega (arith, w.count-is, l.invariant.3)) | else-is_bad-is_full w ↦ (search rules, search rules, w.count-is ∙ counted-miss q l.i l.invariant.2 (s ∙ w.if-is_bad-is_full.false), omega (arith, w.count-is, l.invariant.3)) ]

pub returns : goal.returns
returns c = counted-all _ _ c.loop-i.invariant.2 (omega arith)
