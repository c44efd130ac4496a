-- The code's own: what its structs say, and what its steps give. No definition of document 01 cites these but those of Blocks.antt, which follow the program.
use Rattle.std.specs.Prelude.{◌≡◌, Bool, cond, List, ◌++◌, ℕ, ◌+◌, ◌*◌, min, length, drop, Option, None, Some, is_some, Result, Ok, Err}
use Rattle.answer.specs.declared.Refusal.{Refusal}
use Rattle.answer.specs.declared.Refusal.TheVariants.{RunLine}
use Rattle.plan.specs.declared.Plan.{Plan}
use Rattle.memory.specs.declared.Memory.{Memory}
use Rattle.system.specs.declared.System.{System}
use Rattle.rows.specs.Code.{memory_in, Rows}
use Rattle.run_line.specs.Line.{printed_size}
use Rattle.run_line.specs.Listing.{most_run_lines, line_numbers, system_next, single_after, frame_line, system_at, single_at, frames, printed, line_left}
use Rattle.lines.specs.declared.Run.{Run}
use Rattle.lines.specs.declared.Printed.{Printed}
use Rattle.lines.specs.declared.step.Stepped.{Stepped}
use Rattle.lines.specs.Run.{next_numbers}

-- ---- one line

-- by the numbers of the line, none where it is refused: record and single controller after it
unfoldable pub system_then : Plan → System → Option (List ℕ) → System
system_then p sys None = sys
system_then p sys (Some l) = system_next p sys l

unfoldable pub single_then : Plan → Memory → Option (List ℕ) → Memory
single_then p single None = single
single_then p single (Some l) = single_after p single l

-- what a step gives
unfoldable pub step_answer : Plan → System → Memory → Option (List ℕ) → Option Stepped
step_answer p sys single None = None
step_answer p sys single (Some l) = Some (record { system = system_next p sys l; single = single_after p single l })

unfoldable pub step_place : Plan → System → Memory → ℕ → Option (List ℕ) → List ℕ → List ℕ
step_place p sys single frame None out = out
step_place p sys single frame (Some l) out = frame_line p sys single frame l

-- the numbers of some line of this frame
abbrev pub OfLine : Plan → ℕ → Option (List ℕ) → Type 0
OfLine p frame numbers = (line : List ℕ) × (numbers ≡ line_numbers p frame line)

-- what a line makes of rows that hold a record, with the single controller in row 0: whether it is run, and what rows and place hold then
module _ (p : Plan) (sys : System) (single : Memory) (frame : ℕ) (numbers : Option (List ℕ)) (place : List ℕ) where
  pub record LineMade (taken : Bool) (counters cells good seen out : List ℕ) : Type 0 where
    pub taken_is : taken ≡ is_some numbers
    pub rows : Rows (system_then p sys numbers) counters cells good seen
    pub first-row : memory_in counters cells 0 ≡ single_then p single numbers
    pub out-is : out ≡ step_place p sys single frame numbers place

abbrev pub printed_with : Option Refusal → ℕ → Plan → ℕ → System → Memory → ℕ → Printed
printed_with refused count plan period system single frame =
    record { refused = refused; count = count; run = record { plan = plan; period = period; system = system; single = single; frame = frame } }

-- the next line by a state that 7, 9 and 8 do not refuse, where something is left: how many bytes are printed
unfoldable pub taken_or : Run → Option (List ℕ) → Result ℕ Refusal
taken_or r None = Err (RunLine (min r.frame most_run_lines + 1))
taken_or r (Some l) = Ok (printed_size r.plan.actuators)

unfoldable pub line_taken : Run → List ℕ → Result ℕ Refusal
line_taken r rest = taken_or r (next_numbers r rest)

-- ---- a part of a run

abbrev pub block_lines : ℕ
block_lines = 128

module _ (r : Run) (rest : List ℕ) where
  abbrev pub frames_left : ℕ
  frames_left = frames r.plan r.system r.single r.frame rest

  unfoldable pub lines_answer : Printed
  lines_answer =
      printed_with (cond (line_left r.plan r.system r.single r.frame rest) (Some (RunLine (r.frame + frames_left + 1))) None)
      (frames_left * printed_size r.plan.actuators)
      r.plan
      r.period
      (system_at r.plan r.system r.single r.frame rest frames_left)
      (single_at r.plan r.system r.single r.frame rest frames_left)
      (r.frame + frames_left)

  unfoldable pub lines_place : List ℕ → List ℕ
  lines_place out =
      printed r.plan r.system r.single r.frame rest
      ++ drop (length (printed r.plan r.system r.single r.frame rest)) out
