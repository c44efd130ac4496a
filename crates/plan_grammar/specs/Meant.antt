-- The plan that a text means: the record in which each line has put its entry. That its written text is the text is a law, `text-of-plan`.
use Rattle.std.specs.Prelude.{Bool, true, false, cond, List, ℕ, zero, suc, ◌+◌, ◌*◌, eqb, set, replicate}
use Rattle.pattern.specs.Pattern.{value_of}
use Rattle.plan.specs.declared.Op.{Op}
use Rattle.plan.specs.declared.Op.TheVariants.{Take, Sum, Diff, Scale, Limit, Wind, Cam}
use Rattle.plan.specs.declared.Task.{Task}
use Rattle.plan.specs.declared.Plan.{Plan}
use Rattle.plan.specs.Limits.{most_frames, most_cells, most_tasks, most_actuators}
use Rattle.plan.specs.Tables.{unused_task, vote_place}
use Rattle.plan_grammar.specs.Line.{line_count, line_at, kind_of, second, third, fourth, fifth, sixth, is_task, header_kind, cell_kind, sum_kind, diff_kind, scale_kind, limit_kind, wind_kind, cam_kind, vote_kind, actuator_kind}

-- "a new plan .. beside a refusal is all zero"
abbrev pub zero_plan : Plan
zero_plan =
    record {
      nodes = 0;
      frames = 0;
      cells = 0;
      sensors = 0;
      actuators = 0;
      initial = replicate most_cells 0;
      task_count = 0;
      tasks = replicate most_tasks unused_task;
      voted = replicate (most_frames * most_cells) false;
      actuator_cell = replicate most_actuators 0;
    }

-- the task of a line, by its kind
unfoldable pub op_of : List ℕ → Op
op_of l =
    cond (eqb (kind_of l) sum_kind) (Sum (fourth l) (fifth l))
    (cond (eqb (kind_of l) diff_kind) (Diff (fourth l) (fifth l))
    (cond (eqb (kind_of l) scale_kind) (Scale (fourth l) (value_of (fifth l)))
    (cond (eqb (kind_of l) limit_kind) (Limit (fourth l) (value_of (fifth l)) (value_of (sixth l)))
    (cond (eqb (kind_of l) wind_kind) (Wind (fourth l) (record { rate = value_of (fifth l); cap = value_of (sixth l) }))
    (cond (eqb (kind_of l) cam_kind) (Cam (fourth l))
    (Take (fourth l)))))))

unfoldable pub task_of : List ℕ → Task
task_of l = record { frame = second l; target = third l; op = op_of l }

-- a record's fields with the entry of a line, if the line is of their kind
unfoldable pub header_with : List ℕ → ℕ → ℕ → ℕ
header_with l number old = cond (eqb (kind_of l) header_kind) number old

unfoldable pub initial_with : List ℕ → List ℕ → List ℕ
initial_with l initial = cond (eqb (kind_of l) cell_kind) (set initial (second l) (fifth l)) initial

unfoldable pub count_with : List ℕ → ℕ → ℕ
count_with l count = cond (is_task (kind_of l)) (count + 1) count

unfoldable pub tasks_with : List ℕ → ℕ → List Task → List Task
tasks_with l count tasks = cond (is_task (kind_of l)) (set tasks count (task_of l)) tasks

unfoldable pub voted_with : List ℕ → List Bool → List Bool
voted_with l voted = cond (eqb (kind_of l) vote_kind) (set voted (vote_place (second l) (third l)) true) voted

unfoldable pub actuators_with : List ℕ → List ℕ → List ℕ
actuators_with l cells = cond (eqb (kind_of l) actuator_kind) (set cells (second l) (third l)) cells

unfoldable pub with_line : List ℕ → Plan → Plan
with_line l p =
    record {
      nodes = header_with l (second l) p.nodes;
      frames = header_with l (third l) p.frames;
      cells = header_with l (fourth l) p.cells;
      sensors = header_with l (fifth l) p.sensors;
      actuators = header_with l (sixth l) p.actuators;
      initial = initial_with l p.initial;
      task_count = count_with l p.task_count;
      tasks = tasks_with l p.task_count p.tasks;
      voted = voted_with l p.voted;
      actuator_cell = actuators_with l p.actuator_cell;
    }

-- what the first i lines say
unfoldable pub plan_to : List ℕ → ℕ → Plan
plan_to s zero = zero_plan
plan_to s (suc i) = with_line (line_at s i) (plan_to s i)

unfoldable pub plan_of : List ℕ → Plan
plan_of s = plan_to s (line_count s)
