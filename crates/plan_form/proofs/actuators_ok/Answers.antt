-- `plan_form::actuators_ok` meets its contract: the loop has passed entries that `actuator_ok` accepts only.
use mathlib.Core.Path.{sym, ◌∙◌}
use mathlib.Core.Bool.{true}
use Prim.Native.Nat.{◌-◌}
use borrow.Author.Rules.{rules}
use Rattle.array.proofs.IndexLaws.{all_below-none, all_below-more, all_below-fails}
use Rattle.plan.proofs.EntryLaws.{all_done}
use Rattle.plan_form.proofs.actuators_ok.Goals as goal

pub loop-i-init : goal.loop-i-init
loop-i-init c = (search rules, all_below-none _)

pub returns-then-not-actuator_ok : goal.returns-then-not-actuator_ok
returns-then-not-actuator_ok c =
    let l = c.loop-i in
    sym (all_below-fails _ 8 l.i c.loop-i-test.true
    (sym c.actuator_ok.ensures ∙ c.if-not-actuator_ok.true))

pub loop-i-preserved : goal.loop-i-preserved
loop-i-preserved c =
    let l = c.loop-i in
    (search rules, all_below-more _ l.i l.invariant.1 (sym c.actuator_ok.ensures ∙ c.if-not-actuator_ok.false))

pub returns : goal.returns
returns c = all_done _ c.loop-i.invariant.1 c.loop-i-test.false
