use mathlib.Core.Path.{◌≡◌}
use Prim.Native.Nat.{◌-◌, ◌≤◌}
use Rattle.card_bins.specs.Bins.{emptied}
use Rattle.card_bins.proofs.step.empty.Given as goal

abbrev pub invariant-loop-j : goal.invariant-loop-j
invariant-loop-j l = (l.j ≤ l.nodes) × (l.bins ≡ emptied l.cells l.j l.initial.bins)
