-- `Seen::started` meets its contract: each actuator's entry is its cell's initial pattern.
use mathlib.Core.Path.{◌≡◌, refl, sym, ap, ◌∙◌}
use mathlib.Core.List.{List}
use Prim.Native.Nat.{ℕ}
use lib.ListN.{replicate, set}
use native.Mathlib.Omega.{arith}
use borrow.Author.Rules.{rules}
use Rattle.array.specs.Index.{fill}
use Rattle.array.proofs.PlacesLaws.{fill_none, fill_more}
use Rattle.plan.specs.Limits.{most_actuators}
use Rattle.system.proofs.Seen.started.Invariants.{entry}
use Rattle.system.proofs.Seen.started.Goals as goal

pub loop-a-init : goal.loop-a-init
loop-a-init c = (search rules, sym (fill_none _ _))

pub offset_bounds-initial-cell : goal.offset_bounds-initial-cell
offset_bounds-initial-cell c = omega (arith, c.requires.1 c.loop-a.a (omega (arith, c.loop-a-test.true)))

pub bounds-initial-cell : goal.bounds-initial-cell
bounds-initial-cell c = omega (arith, c.requires.1 c.loop-a.a (omega (arith, c.loop-a-test.true)))

pub loop-a-preserved : goal.loop-a-preserved
loop-a-preserved c =
    let l = c.loop-a in
    let f = entry c.args.initial.now c.args.table.now in
    (search rules, ap (λ (x : List ℕ). set x l.a (f l.a)) l.invariant.1 ∙ fill_more f l.a (replicate most_actuators 0) _ refl)

pub returns : goal.returns
returns c =
    let l = c.loop-a in
    let a = c.args in
    let e : l.a ≡ a.actuators = omega arith in
    l.invariant.1 ∙ ap (λ (n : ℕ). fill (entry a.initial.now a.table.now) n (replicate most_actuators 0)) e
