use mathlib.Core.Path.{◌≡◌}
use mathlib.Core.Bool.{true, ◌||◌}
use Prim.Native.Nat.{◌-◌, ◌≤◌}
use lib.Dec.{eqb}
use Rattle.array.specs.Index.{all_below}
use Rattle.card_bins.specs.Bins.{is_filled}
use Rattle.card_bins.proofs.step.others_filled.Given as goal

abbrev pub invariant-loop-j : goal.invariant-loop-j
invariant-loop-j l = (l.j ≤ l.nodes) × (all_below (λ i. eqb i l.number || is_filled l.cells l.bins i) l.j ≡ true)
