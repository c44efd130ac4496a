-- What start and a refusal's line give, refused or not. Beside a refusal the lent buffer stays as it was.
use Rattle.std.specs.Prelude.{List, [], ◌∷◌, ◌++◌, ℕ, leb, length, drop, Option, None, Some, Result}
use Rattle.answer.specs.declared.Refusal.{Refusal}
use Rattle.answer.specs.Tests.{Test, test, unless, given, if_passed}
use Rattle.plan.specs.declared.Plan.{Plan}
use Rattle.plan.specs.Known.{period}
use Rattle.plan_grammar.specs.Meant.{plan_of}
use Rattle.plan_grammar.specs.Refused.{text_refusal}
use Rattle.memory.specs.Node.{powered_on}
use Rattle.system.specs.System.{power_on}
use Rattle.run_line.specs.Line.{refusal_line, refusal_size}
use Rattle.lines.specs.declared.Run.{Run}

-- ---- start

-- a run of an accepted plan at power-on
unfoldable pub start_of : Plan → Run
start_of p = record { plan = p; period = period p; system = power_on p; single = powered_on p; frame = 0 }

unfoldable pub start_answer : List ℕ → Result Run Refusal
start_answer s = unless (text_refusal s) (start_of (plan_of s))

-- ---- the line of a refusal; where nothing is refused there is none

unfoldable pub refusal_tests : ℕ → List Test
refusal_tests room = test 8 (leb refusal_size room) ∷ []

abbrev pub line_size : Option Refusal → ℕ
line_size None = 0
line_size (Some r) = refusal_size

abbrev pub with_line : Option Refusal → List ℕ → List ℕ
with_line None out = out
with_line (Some r) out = refusal_line r ++ drop refusal_size out

-- how many bytes are written
unfoldable pub refusal_written : Option Refusal → ℕ → Result ℕ Refusal
refusal_written o room = given (refusal_tests room) (line_size o)

unfoldable pub refusal_place : Option Refusal → List ℕ → List ℕ
refusal_place o out = if_passed (refusal_tests (length out)) (with_line o out) out
