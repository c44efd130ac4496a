use mathlib.Core.Path.{◌≡◌}
use Prim.Native.Nat.{◌≤◌}
use Rattle.ballot.specs.Majority.{holders}
use Rattle.ballot.specs.Code.{packed, best_from}
use Rattle.ballot.proofs.step.most_held.Given as goal

abbrev pub invariant-loop-i : goal.invariant-loop-i
invariant-loop-i l = (l.i ≤ l.k) × (l.best ≡ best_from (packed l.values l.k) l.k l.remembered l.i) × (l.most ≡ holders (packed l.values l.k) l.k l.best)
