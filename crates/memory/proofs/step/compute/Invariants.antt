use mathlib.Core.Path.{◌≡◌}
use Prim.Native.Nat.{◌+◌, ◌%◌, ◌≤◌, ◌<◌}
use Rattle.plan.specs.Limits.{most_frames, most_tasks}
use Rattle.cam.specs.Cam.{cam_table}
use Rattle.task.specs.Task.{run_tasks}
use Rattle.memory.proofs.step.compute.Given as goal

abbrev pub invariant-loop-k : goal.invariant-loop-k
invariant-loop-k l = (l.k ≤ l.count) × (l.count ≤ most_tasks) × (l.cells ≡ run_tasks l.plan l.g l.sensors l.k l.initial.cells) × (l.frames ≤ most_frames) × (l.g < l.frames) × ((l.g + 1) % l.frames < l.frames) × (l.cams ≡ cam_table)
