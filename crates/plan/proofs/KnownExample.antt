-- R of a small plan, by computation: a row of document 01's short table.
use mathlib.Core.Path.{◌≡◌, refl}
use mathlib.Core.Bool.{false}
use Prim.Native.Nat.{◌*◌}
use lib.ListN.{replicate}
use Rattle.array.specs.Index.{all_below, all_in}
use Rattle.plan.specs.declared.Plan.{Plan}
use Rattle.plan.specs.Limits.{most_frames, most_cells, most_actuators, most_tasks}
use Rattle.plan.specs.Known.{reads, reads_known, know_task, know_tasks, know_voted, know_frame, known, all_known, period_to, period}
use Rattle.plan.specs.Tables.{unused_task, voted_in}

-- its one task is a Take of zeros, as the unused ones are
abbrev pub one_take : Plan
one_take =
    record {
      nodes = 3;
      frames = 1;
      cells = 1;
      sensors = 1;
      actuators = 1;
      initial = replicate most_cells 0;
      task_count = 1;
      tasks = replicate most_tasks unused_task;
      voted = replicate (most_frames * most_cells) false;
      actuator_cell = replicate most_actuators 0;
    }

-- "F = 1, one cell, Take, no vote: R = 2": the tasks of the first good frame do not count
pub one-take-period : period one_take ≡ 2
unfolding all_below all_in voted_in reads reads_known know_task know_tasks know_voted know_frame known all_known period_to period
one-take-period = refl
