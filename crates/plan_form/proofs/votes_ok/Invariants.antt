use mathlib.Core.Path.{◌≡◌}
use mathlib.Core.Bool.{true, false, not, ◌&&◌, ◌||◌}
use Prim.Native.Nat.{◌≤◌, ◌-◌}
use lib.ListN.{get_or}
use lib.Dec.{ltb}
use Rattle.array.specs.Index.{all_below}
use Rattle.plan.specs.Tables.{vote_place}
use Rattle.plan_form.proofs.votes_ok.Given as goal

abbrev pub invariant-loop-g : goal.invariant-loop-g
invariant-loop-g l = (l.g ≤ 16)
    × (all_below (λ f. all_below (λ j. not (get_or l.voted (vote_place f j) false) || (ltb f l.frames && ltb j l.cells)) 32) l.g ≡ true)
