-- `plan_form::initial_ok` meets its contract: the loop has passed cells of the plan and zeros only.
use mathlib.Core.Path.{sym}
use mathlib.Core.Bool.{true}
use Prim.Native.Nat.{◌-◌}
use borrow.Author.Rules.{rules}
use Rattle.array.proofs.IndexLaws.{all_below-none, all_below-more, all_below-fails}
use Rattle.plan.proofs.EntryLaws.{all_done}
use Rattle.plan_form.proofs.initial_ok.Goals as goal

pub loop-c-init : goal.loop-c-init
loop-c-init c = (search rules, all_below-none _)

pub returns-then-not-c-cells : goal.returns-then-not-c-cells
returns-then-not-c-cells c =
    let l = c.loop-c in
    sym (all_below-fails _ 32 l.c c.loop-c-test.true (c.if-not-c-cells.true))

pub loop-c-preserved : goal.loop-c-preserved
loop-c-preserved c =
    let l = c.loop-c in
    (search rules, all_below-more _ l.c l.invariant.1 (c.if-not-c-cells.false))

pub returns : goal.returns
returns c = all_done _ c.loop-c.invariant.1 c.loop-c-test.false
