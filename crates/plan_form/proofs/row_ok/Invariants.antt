use mathlib.Core.Path.{◌≡◌}
use mathlib.Core.Bool.{true, false, not, ◌||◌}
use Prim.Native.Nat.{◌≤◌, ◌-◌}
use lib.ListN.{get_or}
use lib.Dec.{ltb}
use Rattle.array.specs.Index.{all_below}
use Rattle.plan.specs.Tables.{vote_place}
use Rattle.plan_form.proofs.row_ok.Given as goal

abbrev pub invariant-loop-c : goal.invariant-loop-c
invariant-loop-c l = (l.from ≤ l.c) × (all_below (λ j. not (get_or l.voted (vote_place l.frame j) false) || ltb j l.from) l.c ≡ true)
