use mathlib.Core.Path.{◌≡◌}
use mathlib.Core.Bool.{true}
use Prim.Native.Nat.{◌≤◌}
use lib.ListN.{get_or}
use lib.Dec.{leb}
use Rattle.array.specs.Index.{all_below}
use Rattle.counts.proofs.step.counts_ok.Given as goal

abbrev pub invariant-loop-i : goal.invariant-loop-i
invariant-loop-i l = (l.i ≤ l.nodes) × (all_below (λ k. leb (get_or l.good k 0) l.period) l.i ≡ true)
