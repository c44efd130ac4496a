use mathlib.Core.Path.{◌≡◌}
use Prim.Native.Nat.{◌≤◌}
use Rattle.plan.specs.Limits.{most_nodes}
use Rattle.rows.specs.Code.{seen_words}
use Rattle.rows.proofs.RowLaws.{Unpacked}
use Rattle.rows.proofs.RowWords.of.Given as goal

abbrev pub invariant-loop-j : goal.invariant-loop-j
invariant-loop-j l = (l.j ≤ most_nodes) × (l.rows.good ≡ l.system.good) × (l.rows.seen ≡ seen_words l.system.seen) × Unpacked l.system.memories l.j l.rows.counters l.rows.cells
