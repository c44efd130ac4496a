-- The blocks of a run that the program has read, one after another: each is printed from the run that the one before it left. No contract can say what a file has or what is written; this says what the
-- blocks are to each other, and proofs/FollowedLaws that what they print is the listing of what was read.
use Rattle.std.specs.Prelude.{◌≡◌, List, [], ◌++◌, ℕ, ◌*◌, ◌<◌, length, None}
use Rattle.run_line.specs.Line.{run_line_size}
use Rattle.lines.specs.declared.Run.{Run}
use Rattle.lines.specs.Code.{block_lines, lines_answer}
use Rattle.lines.specs.Blocks.{block_listing}

-- blocks of which no line was refused: their bytes, what they print, and the run that they leave
pub data Passed (start : Run) : List ℕ → List ℕ → Run → Type 0 where
  nothing : Passed start [] [] start
  further :
      {read printed : List ℕ} {r : Run} → Passed start read printed r → (block : List ℕ) → (lines_answer r block).refused ≡ None →
      Passed start (read ++ block) (printed ++ block_listing r block) (lines_answer r block).run

-- the run after them
pub record Reached (start r : Run) : Type 0 where
  pub read : List ℕ
  pub printed : List ℕ
  pub passed : Passed start read printed r

-- the run after them and one more, the last: it was not filled, or a line of it was refused
pub record Followed (start left : Run) : Type 0 where
  pub before : Run
  pub reached : Reached start before
  pub last : List ℕ
  pub ends : (lines_answer before last).refused ≡ None → length last < block_lines * run_line_size start.plan.sensors
  pub left_is : left ≡ (lines_answer before last).run
