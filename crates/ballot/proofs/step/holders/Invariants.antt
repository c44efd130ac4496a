use mathlib.Core.Path.{◌≡◌}
use Prim.Native.Nat.{◌≤◌}
use Rattle.ballot.specs.Majority.{holders}
use Rattle.ballot.specs.Code.{packed}
use Rattle.ballot.proofs.step.holders.Given as goal

abbrev pub invariant-loop-j : goal.invariant-loop-j
invariant-loop-j l = (l.j ≤ l.k) × (l.held ≡ holders (packed l.values l.k) l.j l.x) × (l.held ≤ l.j)
