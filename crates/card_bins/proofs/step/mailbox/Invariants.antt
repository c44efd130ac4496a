use mathlib.Core.Path.{◌≡◌}
use Prim.Native.Nat.{◌-◌, ◌≤◌}
use Rattle.array.specs.Code.{placed}
use Rattle.card_bins.specs.Bins.{mailbox_in}
use Rattle.card_bins.proofs.step.mailbox.Given as goal

abbrev pub invariant-loop-j : goal.invariant-loop-j
invariant-loop-j l = (l.j ≤ l.nodes) × (l.out ≡ placed l.initial.out 0 (mailbox_in l.cells l.j l.bins))
