use mathlib.Core.Path.{◌≡◌}
use mathlib.Core.Bool.{true}
use Prim.Native.Nat.{ℕ, ◌≤◌, ◌<◌}
use Rattle.array.specs.Bit.{bit}
use Rattle.plan_walk.proofs.step.first_unset.Given as goal

abbrev pub invariant-loop-g : goal.invariant-loop-g
invariant-loop-g l = (l.low ≤ l.g) × (l.g ≤ l.high) × ((k : ℕ) → l.low ≤ k → k < l.g → bit l.w k ≡ true)
