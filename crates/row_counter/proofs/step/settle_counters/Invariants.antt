use mathlib.Core.Path.{◌≡◌}
use Prim.Native.Nat.{suc, ◌≤◌}
use lib.ListN.{length}
use Rattle.plan.specs.Limits.{most_nodes}
use Rattle.rows.specs.Code.{row_count}
use Rattle.row_counter.specs.Code.{Put}
use Rattle.row_word.specs.Code.{is_good}
use Rattle.row_counter.proofs.step.settle_counters.Given as goal

abbrev pub invariant-loop-j : goal.invariant-loop-j
invariant-loop-j l = (l.j ≤ l.nodes) × (l.nodes ≤ most_nodes) × (length l.initial.counters ≡ row_count) × Put suc (is_good l.mask) (λ i. l.counter) l.j l.initial.counters l.counters
