-- Document 01, 'Tasks': what a task gives, on the patterns of sensors and cells.
use Rattle.std.specs.Prelude.{cond, List, ℕ, zero, suc, get_or, set, eqb}
use Rattle.pattern.specs.Pattern.{sum_of, diff_of, scale_of, limit_of, wind_of}
use Rattle.cam.specs.Cam.{cam_of}
use Rattle.plan.specs.declared.Op.{Op}
use Rattle.plan.specs.declared.Op.TheVariants.{Take, Sum, Diff, Scale, Limit, Wind, Cam}
use Rattle.plan.specs.declared.Task.{Task}
use Rattle.plan.specs.declared.Plan.{Plan}
use Rattle.plan.specs.Tables.{task_at}

-- "Take copies the sensor's pattern. Sum is a + b, Diff a − b, Scale factor × a .. Limit .. of a .. Wind gives the target's old value plus rate × a"; a cam the entry at position a
unfoldable pub op_value : Op → ℕ → List ℕ → List ℕ → ℕ
op_value (Take s) target sensors cells = get_or sensors s 0
op_value (Sum a b) target sensors cells = sum_of (get_or cells a 0) (get_or cells b 0)
op_value (Diff a b) target sensors cells = diff_of (get_or cells a 0) (get_or cells b 0)
op_value (Scale a factor) target sensors cells = scale_of factor (get_or cells a 0)
op_value (Limit a low high) target sensors cells = limit_of (get_or cells a 0) low high
op_value (Wind a law) target sensors cells = wind_of (get_or cells target 0) (get_or cells a 0) law
op_value (Cam a) target sensors cells = cam_of (get_or cells a 0)

-- a task of frame g stores its value in its target; one of another frame does nothing
unfoldable pub run_task : ℕ → List ℕ → Task → List ℕ → List ℕ
run_task g sensors t cells = cond (eqb t.frame g) (set cells t.target (op_value t.op t.target sensors cells)) cells

-- the first k tasks: "run the tasks of frame g in text order, each seeing the writes before it"
unfoldable pub run_tasks : Plan → ℕ → List ℕ → ℕ → List ℕ → List ℕ
run_tasks p g sensors zero cells = cells
run_tasks p g sensors (suc k) cells = run_task g sensors (task_at p k) (run_tasks p g sensors k cells)
