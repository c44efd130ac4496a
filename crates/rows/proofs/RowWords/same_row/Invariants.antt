use mathlib.Core.Path.{◌≡◌}
use mathlib.Core.Bool.{true}
use Prim.Native.Nat.{◌≤◌, ◌<◌}
use lib.Dec.{eqb}
use lib.ListN.{get_or}
use Rattle.array.specs.Index.{all_below}
use Rattle.plan.specs.Limits.{most_cells}
use Rattle.rows.specs.Code.{row_count, row_of}
use Rattle.rows.proofs.RowWords.same_row.Given as goal

abbrev pub invariant-loop-c : goal.invariant-loop-c
invariant-loop-c l = (l.c ≤ l.width) × (l.width ≤ most_cells) × (l.r < row_count) × (all_below (λ d. eqb (get_or (row_of l.self.cells l.r) d 0) (get_or (row_of l.self.cells 0) d 0)) l.c ≡ true)
