use mathlib.Core.Path.{◌≡◌}
use Prim.Native.Nat.{◌≤◌}
use lib.ListN.{length}
use Rattle.plan.specs.Limits.{most_sensors}
use Rattle.run_line.proofs.ReadingLaws.{Front}
use Rattle.run_line.proofs.step.read_patterns.Given as goal

abbrev pub invariant-loop-k : goal.invariant-loop-k
invariant-loop-k l = (length l.patterns ≡ most_sensors) × (l.k ≤ l.count) × Front l.line l.count l.patterns l.k
