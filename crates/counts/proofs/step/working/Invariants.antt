use mathlib.Core.Path.{◌≡◌}
use Prim.Native.Nat.{◌≤◌}
use Rattle.array.specs.Index.{how_many}
use Rattle.plan.specs.Limits.{most_nodes}
use Rattle.system.specs.Counts.{is_working}
use Rattle.counts.proofs.step.working.Given as goal

abbrev pub invariant-loop-i : goal.invariant-loop-i
invariant-loop-i l = (l.i ≤ l.nodes) × (l.nodes ≤ most_nodes) × (l.count ≡ how_many (is_working l.period l.mask l.good) l.i) × (l.count ≤ l.i)
