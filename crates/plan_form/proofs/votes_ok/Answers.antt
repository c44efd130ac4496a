-- `plan_form::votes_ok` meets its contract: the row of a frame of the plan is free past its cells, and any other from the start.
use mathlib.Core.Path.{sym}
use mathlib.Core.Logic.{inl, inr}
use mathlib.Core.Bool.{true, false}
use Prim.Native.Nat.{◌-◌}
use borrow.Author.Rules.{rules}
use Rattle.array.proofs.IndexLaws.{all_below-none, all_below-more, all_below-fails}
use Rattle.plan.proofs.EntryLaws.{all_done, row_is}
use Rattle.plan_form.proofs.votes_ok.Goals as goal
use Rattle.plan_form.proofs.votes_ok.Goals.{then-g-frames, else-g-frames}

pub loop-g-init : goal.loop-g-init
loop-g-init c = (search rules, all_below-none _)

pub returns-then-not-row_ok : goal.returns-then-not-row_ok
returns-then-not-row_ok c =
    let a = c.args in
    let i = c.if-g-frames in
    sym (all_below-fails _ 16 c.loop-g.g c.loop-g-test.true
    (row_is a.voted.now c.loop-g.g a.frames a.cells i.from
    (elim i.branch [ then-g-frames w ↦ inl (w.if-g-frames.true, w.from-is) | else-g-frames w ↦ inr (w.if-g-frames.false, w.from-is) ])
    c.row_ok.ensures
    (c.if-not-row_ok.true)))

pub loop-g-preserved : goal.loop-g-preserved
loop-g-preserved c =
    let a = c.args in
    let i = c.if-g-frames in (
      search rules,
      all_below-more _ c.loop-g.g c.loop-g.invariant.1
          (row_is a.voted.now c.loop-g.g a.frames a.cells i.from
          (elim i.branch [ then-g-frames w ↦ inl (w.if-g-frames.true, w.from-is) | else-g-frames w ↦ inr (w.if-g-frames.false, w.from-is) ])
          c.row_ok.ensures
          (c.if-not-row_ok.false)),
    )

pub returns : goal.returns
returns c = all_done _ c.loop-g.invariant.1 c.loop-g-test.false
