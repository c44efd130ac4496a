use mathlib.Core.Path.{◌≡◌}
use Prim.Native.Nat.{◌+◌, ◌≤◌}
use Rattle.array.specs.Index.{how_many}
use Rattle.plan.specs.Limits.{most_nodes}
use Rattle.rows.specs.Code.{same_row}
use Rattle.rows.proofs.RowWords.equal.Given as goal

abbrev pub invariant-loop-j : goal.invariant-loop-j
invariant-loop-j l = (l.j ≤ l.nodes) × (l.nodes ≤ most_nodes) × (l.same ≡ how_many (λ k. same_row l.width l.self.counters l.self.cells (k + 1)) l.j) × (l.same ≤ l.j)
