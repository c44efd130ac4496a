use mathlib.Core.Path.{◌≡◌}
use mathlib.Core.Bool.{true}
use Prim.Native.Nat.{ℕ, ◌≤◌, ◌<◌}
use Rattle.array.specs.Bit.{bit}
use Rattle.row_vote.proofs.step.of_good.Given as goal

abbrev pub invariant-loop-j : goal.invariant-loop-j
invariant-loop-j l = (l.j ≤ l.nodes) × ((k : ℕ) → k < l.j → bit l.mask k ≡ true)
