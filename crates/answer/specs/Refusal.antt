-- Document 01, 'Who can cause which refusal': "A refusal gives its number and a line from 1; 0 where no line is meant." Document 02, 2026-05: "Numbers that a request adds count
-- in demand 1 as 1 to 10 do, with line 0."
use Rattle.std.specs.Prelude.{ℕ}
use Rattle.answer.specs.declared.Refusal.{Refusal}
use Rattle.answer.specs.declared.Refusal.TheVariants.{
  TextLength,
  Malformed,
  Header,
  OutOfOrder,
  OutOfRange,
  Unrecoverable,
  InvalidPlan,
  WrongLength,
  MaskOrCount,
  RunLine,
  NodesOrLength,
  PageAccess,
}

-- the refusal's number
abbrev pub number_of : Refusal → ℕ
number_of TextLength = 1
number_of (Malformed line) = 2
number_of Header = 3
number_of (OutOfOrder line) = 4
number_of (OutOfRange line) = 5
number_of Unrecoverable = 6
number_of InvalidPlan = 7
number_of WrongLength = 8
number_of MaskOrCount = 9
number_of (RunLine line) = 10
number_of NodesOrLength = 11
number_of PageAccess = 12

-- its line; refusal 3 is of the first line only
abbrev pub line_of : Refusal → ℕ
line_of TextLength = 0
line_of (Malformed line) = line
line_of Header = 1
line_of (OutOfOrder line) = line
line_of (OutOfRange line) = line
line_of Unrecoverable = 0
line_of InvalidPlan = 0
line_of WrongLength = 0
line_of MaskOrCount = 0
line_of (RunLine line) = line
line_of NodesOrLength = 0
line_of PageAccess = 0
