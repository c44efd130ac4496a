use mathlib.Core.Path.{◌≡◌}
use Prim.Native.Nat.{ℕ, ◌≤◌, ◌<◌}
use lib.ListN.{get_or}
use Rattle.array.specs.Index.{all_below}
use Rattle.array.specs.Bit.{bit}
use Rattle.plan_walk.proofs.step.known_by_all.Given as goal

abbrev pub invariant-loop-c : goal.invariant-loop-c
invariant-loop-c l = (l.c ≤ l.cells) × ((g : ℕ) → g < 16 → bit l.all g ≡ all_below (λ x. bit (get_or l.words x 0) g) l.c)
