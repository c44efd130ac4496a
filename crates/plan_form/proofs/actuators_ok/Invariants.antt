use mathlib.Core.Path.{◌≡◌}
use mathlib.Core.Bool.{true, cond}
use Prim.Native.Nat.{◌≤◌, ◌-◌}
use lib.ListN.{get_or}
use lib.Dec.{eqb, ltb}
use Rattle.array.specs.Index.{all_below}
use Rattle.plan_form.proofs.actuators_ok.Given as goal

abbrev pub invariant-loop-i : goal.invariant-loop-i
invariant-loop-i l = (l.i ≤ 8)
    × (all_below (λ j. cond (ltb j l.actuators) (ltb (get_or l.table j 0) l.cells) (eqb (get_or l.table j 0) 0)) l.i ≡ true)
