use mathlib.Core.Path.{◌≡◌}
use Prim.Native.Nat.{◌+◌, ◌≤◌}
use Rattle.array.specs.Index.{fill}
use Rattle.plan.specs.Limits.{most_nodes}
use Rattle.rows.specs.Code.{memory_in}
use Rattle.rows.proofs.RowWords.system.Given as goal

abbrev pub invariant-loop-j : goal.invariant-loop-j
invariant-loop-j l = (l.j ≤ most_nodes) × (l.memories ≡ fill (λ i. memory_in l.self.counters l.self.cells (i + 1)) l.j l.initial.memories)
