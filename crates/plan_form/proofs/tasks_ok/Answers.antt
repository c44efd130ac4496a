-- `plan_form::tasks_ok` meets its contract: the loop has passed entries that `entry_ok` accepts only, and `last` is the frame of
-- the entry before.
use mathlib.Core.Path.{sym}
use mathlib.Core.Bool.{true}
use Prim.Native.Nat.{◌-◌}
use borrow.Author.Rules.{rules}
use Rattle.array.proofs.IndexLaws.{all_below-none, all_below-more, all_below-fails}
use Rattle.plan.proofs.EntryLaws.{all_done, before-first, before-next, entry-is}
use Rattle.plan_form.proofs.tasks_ok.Goals as goal

pub loop-k-init : goal.loop-k-init
loop-k-init c = (search rules, all_below-none _, before-first c.args.p)

pub returns-then-not-entry_ok : goal.returns-then-not-entry_ok
returns-then-not-entry_ok c =
    let l = c.loop-k in
    let p = c.args.p in
    sym (all_below-fails _ 64 l.k c.loop-k-test.true
    (entry-is p l.k l.last l.invariant.2 c.entry_ok.ensures (c.if-not-entry_ok.true)))

pub loop-k-preserved : goal.loop-k-preserved
loop-k-preserved c =
    let l = c.loop-k in
    let p = c.args.p in
    let is = entry-is p l.k l.last l.invariant.2 c.entry_ok.ensures (c.if-not-entry_ok.false) in
    (search rules, all_below-more _ l.k l.invariant.1 is, before-next p l.k)

pub returns : goal.returns
returns c = all_done _ c.loop-k.invariant.1 c.loop-k-test.false
