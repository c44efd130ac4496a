use mathlib.Core.Path.{◌≡◌}
use Prim.Native.Nat.{◌-◌, ◌≤◌}
use lib.ListN.{length, get_or}
use Rattle.array.specs.Index.{fill}
use Rattle.array.proofs.step.copy.Given as goal

abbrev pub invariant-loop-k : goal.invariant-loop-k
invariant-loop-k l = (l.n ≡ length l.from) × (length l.from ≡ length l.initial.to) × (l.k ≤ l.n) × (l.to ≡ fill (λ i. get_or l.from i 0) l.k l.initial.to)
