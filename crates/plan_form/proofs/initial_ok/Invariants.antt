use mathlib.Core.Path.{◌≡◌}
use mathlib.Core.Bool.{true, ◌||◌}
use Prim.Native.Nat.{◌≤◌, ◌-◌}
use lib.ListN.{get_or}
use lib.Dec.{eqb, ltb}
use Rattle.array.specs.Index.{all_below}
use Rattle.plan_form.proofs.initial_ok.Given as goal

abbrev pub invariant-loop-c : goal.invariant-loop-c
invariant-loop-c l = (l.c ≤ 32) × (all_below (λ j. ltb j l.cells || eqb (get_or l.initial' j 0) 0) l.c ≡ true)
