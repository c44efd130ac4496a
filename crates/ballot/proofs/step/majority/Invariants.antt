use mathlib.Core.Path.{◌≡◌}
use Prim.Native.Nat.{ℕ, ◌*◌, ◌≤◌, ◌<◌}
use lib.ListN.{get_or}
use Rattle.std.specs.Prelude.{None}
use Rattle.ballot.specs.Majority.{holders}
use Rattle.ballot.specs.Code.{packed}
use Rattle.ballot.proofs.step.majority.Given as goal

abbrev pub invariant-loop-j : goal.invariant-loop-j
invariant-loop-j l = (l.j ≤ l.k) × (l.held ≡ holders (packed l.values l.k) l.j l.x) × (l.held ≤ l.j) × (2 * l.held ≤ l.n) × (l.found ≡ None)

abbrev pub invariant-candidates : goal.invariant-candidates
invariant-candidates l = (l.i ≤ l.k) × (l.found ≡ None) × ((j : ℕ) → j < l.i → 2 * holders (packed l.values l.k) l.k (get_or l.values j 0) ≤ l.n)
