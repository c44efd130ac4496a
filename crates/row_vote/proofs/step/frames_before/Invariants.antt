use mathlib.Core.Path.{◌≡◌}
use Prim.Native.Nat.{ℕ, suc, ◌≤◌, ◌<◌}
use lib.ListN.{length, get_or}
use Rattle.plan.specs.Limits.{most_nodes, most_frames}
use Rattle.row_counter.specs.Code.{frame_before}
use Rattle.row_vote.proofs.step.frames_before.Given as goal

abbrev pub invariant-loop-j : goal.invariant-loop-j
invariant-loop-j l = (l.j ≤ l.nodes) × (length l.all ≡ most_nodes) × ((i : ℕ) → i < l.j → (get_or l.all i 0 ≡ frame_before l.frames (get_or l.counters (suc i) 0)) × (get_or l.all i 0 < most_frames))
