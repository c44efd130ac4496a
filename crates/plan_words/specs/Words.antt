-- A plan as 64-bit words, for callers that hand over numbers only: its counts, the initial patterns, the tasks by the six numbers of their lines, a word
-- of votes for each frame, the actuators' cells. This layout is ours; document 01 has none.
use Rattle.std.specs.Prelude.{Bool, false, cond, ◌&&◌, List, [], ◌∷◌, ◌++◌, ℕ, zero, suc, ◌+◌, ◌*◌, ◌^◌, eqb, ltb, length, get_or, replicate}
use Rattle.array.specs.Index.{all_below, fill, joined, from}
use Rattle.array.specs.Bit.{bit}
use Rattle.plan.specs.declared.Plan.{Plan}
use Rattle.plan.specs.Limits.{most_frames, most_cells, most_tasks, most_actuators}
use Rattle.plan.specs.Tables.{unused_task, task_at, vote_frame, vote_cell, voted_in}
use Rattle.plan_grammar.specs.Line.{kind_of, is_task}
use Rattle.plan_grammar.specs.Meant.{zero_plan, task_of}
use Rattle.plan_grammar.specs.Refused.{task_zeros}
use Rattle.plan_grammar.specs.Written.{task_line}

-- ---- the layout

-- nodes, frames, cells, sensors, actuators, tasks
abbrev pub initial_at : ℕ
initial_at = 6

abbrev pub tasks_at : ℕ
tasks_at = initial_at + most_cells

-- the numbers of a task's line
abbrev pub task_size : ℕ
task_size = 6

abbrev pub votes_at : ℕ
votes_at = tasks_at + task_size * most_tasks

abbrev pub actuators_at : ℕ
actuators_at = votes_at + most_frames

abbrev pub plan_size : ℕ
plan_size = actuators_at + most_actuators

-- ---- from a plan to words

-- the number whose bits below n are these
unfoldable pub number_of_bits : (ℕ → Bool) → ℕ → ℕ
number_of_bits q zero = 0
number_of_bits q (suc k) = number_of_bits q k + cond (q k) (2 ^ k) 0

-- bit c: cell c is voted in frame g
unfoldable pub vote_word : Plan → ℕ → ℕ
vote_word p g = number_of_bits (voted_in p g) most_cells

unfoldable pub plan_words : Plan → List ℕ
plan_words p =
    (p.nodes ∷ p.frames ∷ p.cells ∷ p.sensors ∷ p.actuators ∷ p.task_count ∷ [])
    ++ (p.initial
    ++ (joined (λ k. task_line (task_at p k)) most_tasks
    ++ (joined (λ g. vote_word p g ∷ []) most_frames ++ p.actuator_cell)))

-- ---- from words to a plan

-- the numbers of task k
unfoldable pub task_in : List ℕ → ℕ → List ℕ
task_in ws k = from 0 ws (tasks_at + task_size * k) task_size

unfoldable pub vote_in : List ℕ → ℕ → ℕ
vote_in ws g = get_or ws (votes_at + g) 0

unfoldable pub plan_in : List ℕ → Plan
plan_in ws =
    record {
      nodes = get_or ws 0 0;
      frames = get_or ws 1 0;
      cells = get_or ws 2 0;
      sensors = get_or ws 3 0;
      actuators = get_or ws 4 0;
      initial = from 0 ws initial_at most_cells;
      task_count = get_or ws 5 0;
      tasks = fill (λ k. task_of (task_in ws k)) most_tasks (replicate most_tasks unused_task);
      voted = fill (λ e. bit (vote_in ws (vote_frame e)) (vote_cell e)) (most_frames * most_cells) (replicate (most_frames * most_cells) false);
      actuator_cell = from 0 ws actuators_at most_actuators;
    }

-- a task has a kind of task and zeros where its line has; no cell is voted that no plan can have
unfoldable pub task_words : List ℕ → ℕ → Bool
task_words ws k = is_task (kind_of (task_in ws k)) && task_zeros (task_in ws k)

unfoldable pub vote_words : List ℕ → ℕ → Bool
vote_words ws g = ltb (vote_in ws g) (2 ^ most_cells)

unfoldable pub words_ok : List ℕ → Bool
words_ok ws = eqb (length ws) plan_size && (all_below (task_words ws) most_tasks && all_below (vote_words ws) most_frames)

-- any other words, and any other length, are the all-zero record, which 7 refuses
unfoldable pub plan_of_words : List ℕ → Plan
plan_of_words ws = cond (words_ok ws) (plan_in ws) zero_plan
