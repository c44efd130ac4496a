use mathlib.Core.Path.{◌≡◌}
use Prim.Native.Nat.{ℕ, ◌+◌, ◌*◌, ◌%◌, ◌≤◌, ◌<◌}
use Rattle.plan.specs.Limits.{most_frames, most_cells, most_tasks}
use Rattle.task.specs.Task.{run_tasks}
use Rattle.task.proofs.SkipLaws.{Skips}
use Rattle.rows.specs.Code.{row_count, row_of, Through}
use Rattle.row_frame.specs.Code.{ran}
use Rattle.row_frame.proofs.step.frame.Given as goal

abbrev pub invariant-loop-k : goal.invariant-loop-k
invariant-loop-k l = (l.k ≤ l.count) × (l.count ≤ most_tasks) × (l.skipped ≤ l.count) × Skips l.plan l.g l.skipped × (row_of l.rows.cells l.r ≡ run_tasks l.plan l.g l.sensors l.k (row_of l.initial.rows.cells l.r))
    × ((q : ℕ) → (q ≡ l.r → ⊥) → row_of l.rows.cells q ≡ row_of l.initial.rows.cells q) × (l.rows.counters ≡ l.initial.rows.counters)
    × (l.frames ≤ most_frames) × (l.g < l.frames) × ((l.g + 1) % l.frames < l.frames) × (l.r < row_count) × (l.at ≡ most_cells * l.r) × (l.rows.good ≡ l.initial.rows.good) × (l.rows.seen ≡ l.initial.rows.seen)

abbrev pub invariant-loop-r : goal.invariant-loop-r
invariant-loop-r l = (l.r ≤ l.end) × (l.end ≤ row_count) × (l.skipped ≤ l.count) × Skips l.plan l.last l.skipped × (l.rows.good ≡ l.initial.rows.good) × (l.rows.seen ≡ l.initial.rows.seen)
    × Through l.r (ran l.plan l.sensors l.first) l.initial.rows.counters l.initial.rows.cells l.rows.counters l.rows.cells × (l.first ≤ l.r)
