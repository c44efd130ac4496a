use mathlib.Core.Path.{◌≡◌}
use Prim.Native.Nat.{◌≤◌}
use Rattle.array.specs.Index.{fill}
use Rattle.system.specs.Counts.{good_after}
use Rattle.counts.proofs.step.counts.Given as goal

abbrev pub invariant-loop-i : goal.invariant-loop-i
invariant-loop-i l = (l.i ≤ l.nodes) × (l.good ≡ fill (good_after l.period l.mask l.initial.good) l.i l.initial.good)
