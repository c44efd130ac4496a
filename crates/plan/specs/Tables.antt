-- How a plan record's tables are laid out, and what stands in them.
use Rattle.std.specs.Prelude.{Bool, false, ℕ, ◌+◌, ◌*◌, ◌/◌, ◌%◌, get_or}
use Rattle.plan.specs.declared.Op.TheVariants.{Take}
use Rattle.plan.specs.declared.Task.{Task}
use Rattle.plan.specs.declared.Plan.{Plan}
use Rattle.plan.specs.Limits.{most_cells}

-- "an unused task is a Take of zeros"
abbrev pub unused_task : Task
unused_task = record { frame = 0; target = 0; op = Take 0 }

-- task k of a plan, in text order
abbrev pub task_at : Plan → ℕ → Task
task_at p k = get_or p.tasks k unused_task

-- how the table of votes is laid out: the entry of a frame and a cell, and the frame and the cell of an entry
abbrev pub vote_place : ℕ → ℕ → ℕ
vote_place frame cell = most_cells * frame + cell

abbrev pub vote_frame : ℕ → ℕ
vote_frame e = e / most_cells

abbrev pub vote_cell : ℕ → ℕ
vote_cell e = e % most_cells

-- whether a cell is voted in a frame
unfoldable pub voted_in : Plan → ℕ → ℕ → Bool
voted_in p frame cell = get_or p.voted (vote_place frame cell) false
