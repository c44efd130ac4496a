-- Which records an accepted text has: document 01, 'The plan', line by line. All others are refused with 7.
use Rattle.std.specs.Prelude.{Bool, true, false, not, cond, ◌&&◌, ◌||◌, ℕ, ◌*◌, ◌-◌, ◌^◌, get_or, length, eqb, leb, ltb}
use Rattle.std.specs.Float.{binary64}
use Rattle.std.specs.Float.Ieee.{fits, le}
use Rattle.array.specs.Index.{all_below, all_in}
use Rattle.pattern.specs.Constant.{is_finite, finite_unsigned}
use Rattle.plan.specs.declared.Op.{Op}
use Rattle.plan.specs.declared.Op.TheVariants.{Take, Sum, Diff, Scale, Limit, Wind, Cam}
use Rattle.plan.specs.declared.Task.{Task}
use Rattle.plan.specs.declared.Plan.{Plan}
use Rattle.plan.specs.Limits.{least_nodes, most_nodes, most_frames, most_cells, most_sensors, most_actuators, most_tasks}
use Rattle.plan.specs.Known.{reads, period}
use Rattle.plan.specs.Tables.{task_at, voted_in}

-- ---- the header: "nodes n, 3–7" (from 1 since request 2026-04) "; frames F, 1–16; cells C, 1–32; sensors S, 1–16; actuators A, 1–8", and "at most 64" tasks

abbrev pub within : ℕ → ℕ → ℕ → Bool
within low high x = leb low x && leb x high

unfoldable pub header_ok : ℕ → ℕ → ℕ → ℕ → ℕ → ℕ → Bool
header_ok nodes frames cells sensors actuators tasks =
    within least_nodes most_nodes nodes && within 1 most_frames frames && within 1 most_cells cells && within 1 most_sensors sensors
    && within 1 most_actuators actuators && leb tasks most_tasks

-- ---- tasks

-- what a task holds beside cells: Take's sensor is in range;
-- "Factor, low, high, rate and cap are patterns of finite values; low ≤ high; cap has sign bit 0"
unfoldable pub constants_ok : ℕ → Op → Bool
constants_ok sensors (Take s) = ltb s sensors
constants_ok sensors (Sum a b) = true
constants_ok sensors (Diff a b) = true
constants_ok sensors (Scale a factor) = is_finite factor
constants_ok sensors (Limit a low high) = is_finite low && is_finite high && le low high
constants_ok sensors (Wind a law) = is_finite law.rate && finite_unsigned law.cap
constants_ok sensors (Cam a) = true

-- the cells that it reads are in range
unfoldable pub op_ok : ℕ → ℕ → ℕ → Op → Bool
op_ok cells sensors target o = all_in (λ c. ltb c cells) (reads o target) && constants_ok sensors o

unfoldable pub task_ok : ℕ → ℕ → ℕ → Task → Bool
task_ok frames cells sensors t = ltb t.frame frames && ltb t.target cells && op_ok cells sensors t.target t.op

-- "an unused task is a Take of zeros"
unfoldable pub is_zero_take : Op → Bool
is_zero_take (Take s) = eqb s 0
is_zero_take (Sum a b) = false
is_zero_take (Diff a b) = false
is_zero_take (Scale a factor) = false
is_zero_take (Limit a low high) = false
is_zero_take (Wind a law) = false
is_zero_take (Cam a) = false

unfoldable pub is_unused : Task → Bool
is_unused t = eqb t.frame 0 && eqb t.target 0 && is_zero_take t.op

-- "frames not falling": task k is of no earlier frame than the one before it
unfoldable pub not_falling : Plan → ℕ → Bool
not_falling p k = eqb k 0 || leb (task_at p (k - 1)).frame (task_at p k).frame

-- entry k of the tasks: a task of the plan, or past their count unused
unfoldable pub task_entry : Plan → ℕ → Bool
task_entry p k =
    cond (ltb k p.task_count)
    (task_ok p.frames p.cells p.sensors (task_at p k) && not_falling p k)
    (is_unused (task_at p k))

-- ---- the other entries: "A plan record's entries past its counts are all zero"

unfoldable pub initial_entry : Plan → ℕ → Bool
initial_entry p c = ltb c p.cells || eqb (get_or p.initial c 0) 0

-- a vote is of a frame below F and a cell below C
unfoldable pub vote_entry : Plan → ℕ → ℕ → Bool
vote_entry p g c = not (voted_in p g c) || (ltb g p.frames && ltb c p.cells)

unfoldable pub actuator_entry : Plan → ℕ → Bool
actuator_entry p i =
    cond (ltb i p.actuators) (ltb (get_or p.actuator_cell i 0) p.cells) (eqb (get_or p.actuator_cell i 0) 0)

unfoldable pub entries_ok : Plan → Bool
entries_ok p =
    all_below (task_entry p) most_tasks && all_below (initial_entry p) most_cells
    && all_below (λ g. all_below (vote_entry p g) most_cells) most_frames
    && all_below (actuator_entry p) most_actuators

-- ---- what every value of the Rattle type has, and no call tests: array sizes, entries of 64 bits, constants of binary64

unfoldable pub op_storable : Op → Bool
op_storable (Take s) = true
op_storable (Sum a b) = true
op_storable (Diff a b) = true
op_storable (Scale a factor) = fits binary64 factor
op_storable (Limit a low high) = fits binary64 low && fits binary64 high
op_storable (Wind a law) = fits binary64 law.rate && fits binary64 law.cap
op_storable (Cam a) = true

unfoldable pub storable : Plan → Bool
storable p =
    eqb (length p.initial) most_cells && eqb (length p.tasks) most_tasks
    && eqb (length p.voted) (most_frames * most_cells) && eqb (length p.actuator_cell) most_actuators
    && all_below (λ c. ltb (get_or p.initial c 0) (2 ^ 64)) most_cells
    && all_below (λ k. op_storable (task_at p k).op) most_tasks

-- ---- the records of texts to which none of 1 to 5 applies, and of those to which 6 does not apply either

unfoldable pub well_formed : Plan → Bool
well_formed p =
    storable p
    && (header_ok p.nodes p.frames p.cells p.sensors p.actuators p.task_count && entries_ok p)

unfoldable pub accepted : Plan → Bool
accepted p = well_formed p && not (eqb (period p) 0)
