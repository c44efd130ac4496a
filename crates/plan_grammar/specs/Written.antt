-- The written text of a plan: "one header; cells 0 to C−1; tasks ..; votes, strictly rising by frame, then cell; actuators 0 to A−1".
use Rattle.std.specs.Prelude.{false, cond, List, [], ◌∷◌, ◌++◌, ℕ, ◌*◌, length, get_or}
use Rattle.array.specs.Index.{joined}
use Rattle.pattern.specs.Pattern.{pattern_of}
use Rattle.column.specs.Row.{row}
use Rattle.plan.specs.declared.Op.{Op}
use Rattle.plan.specs.declared.Op.TheVariants.{Take, Sum, Diff, Scale, Limit, Wind, Cam}
use Rattle.plan.specs.declared.Task.{Task}
use Rattle.plan.specs.declared.Plan.{Plan}
use Rattle.plan.specs.Limits.{most_frames, most_cells}
use Rattle.plan.specs.Tables.{task_at, vote_frame, vote_cell}
use Rattle.plan_grammar.specs.Line.{widths, header_kind, cell_kind, take_kind, sum_kind, diff_kind, scale_kind, limit_kind, wind_kind, cam_kind, vote_kind, actuator_kind}

-- the lines by their numbers, after document 01's table
unfoldable pub header_line : Plan → List ℕ
header_line p = header_kind ∷ p.nodes ∷ p.frames ∷ p.cells ∷ p.sensors ∷ p.actuators ∷ []

unfoldable pub cell_line : Plan → ℕ → List ℕ
cell_line p c = cell_kind ∷ c ∷ 0 ∷ 0 ∷ get_or p.initial c 0 ∷ 0 ∷ []

unfoldable pub op_line : ℕ → ℕ → Op → List ℕ
op_line frame target (Take s) = take_kind ∷ frame ∷ target ∷ s ∷ 0 ∷ 0 ∷ []
op_line frame target (Sum a b) = sum_kind ∷ frame ∷ target ∷ a ∷ b ∷ 0 ∷ []
op_line frame target (Diff a b) = diff_kind ∷ frame ∷ target ∷ a ∷ b ∷ 0 ∷ []
op_line frame target (Scale a factor) = scale_kind ∷ frame ∷ target ∷ a ∷ pattern_of factor ∷ 0 ∷ []
op_line frame target (Limit a low high) = limit_kind ∷ frame ∷ target ∷ a ∷ pattern_of low ∷ pattern_of high ∷ []
op_line frame target (Wind a law) = wind_kind ∷ frame ∷ target ∷ a ∷ pattern_of law.rate ∷ pattern_of law.cap ∷ []
op_line frame target (Cam a) = cam_kind ∷ frame ∷ target ∷ a ∷ 0 ∷ 0 ∷ []

unfoldable pub task_line : Task → List ℕ
task_line t = op_line t.frame t.target t.op

unfoldable pub vote_line : ℕ → ℕ → List ℕ
vote_line frame cell = vote_kind ∷ frame ∷ cell ∷ 0 ∷ 0 ∷ 0 ∷ []

unfoldable pub actuator_line : Plan → ℕ → List ℕ
actuator_line p i = actuator_kind ∷ i ∷ get_or p.actuator_cell i 0 ∷ 0 ∷ 0 ∷ 0 ∷ []

-- the line of entry e of the table of votes, if it is voted
unfoldable pub vote_lines : Plan → ℕ → List (List ℕ)
vote_lines p e = cond (get_or p.voted e false) (vote_line (vote_frame e) (vote_cell e) ∷ []) []

-- all lines of a plan
unfoldable pub lines_of : Plan → List (List ℕ)
lines_of p =
    (header_line p ∷ [])
    ++ (joined (λ c. cell_line p c ∷ []) p.cells
    ++ (joined (λ k. task_line (task_at p k) ∷ []) p.task_count
    ++ (joined (vote_lines p) (most_frames * most_cells) ++ joined (λ i. actuator_line p i ∷ []) p.actuators)))

-- lines one after another, each a row of columns
unfoldable pub written : List (List ℕ) → List ℕ
written ls = joined (λ i. row widths (get_or ls i [])) (length ls)

unfoldable pub plan_text : Plan → List ℕ
plan_text p = written (lines_of p)
