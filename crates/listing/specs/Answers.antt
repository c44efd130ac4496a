-- What the next line of a run gives, refused or not. Beside a refusal the state handed in and the lent buffer stay as they were.
use Rattle.std.specs.Prelude.{cond, ◌||◌, List, [], ◌∷◌, ◌++◌, ℕ, ◌+◌, min, eqb, leb, length, drop, Option, None, Some, Result}
use Rattle.answer.specs.declared.Refusal.{Refusal}
use Rattle.answer.specs.Tests.{Test, test_at, test, given, if_passed}
use Rattle.plan.specs.Accepted.{accepted}
use Rattle.system.specs.FrameCall.{counts_ok}
use Rattle.run_line.specs.Line.{printed_size}
use Rattle.run_line.specs.Listing.{most_run_lines, is_some, frame_line}
use Rattle.lines.specs.declared.Run.{Run}
use Rattle.lines.specs.Run.{run_after, next_numbers}

-- ---- the next line, of what is left of the run

-- 10; where nothing is left the listing ends. A frame number from 100,000 on has line 100,001.
unfoldable pub line_test : Run → List ℕ → Test
line_test r rest =
    test_at 10 (min r.frame most_run_lines + 1) (eqb (length rest) 0 || is_some (next_numbers r rest))

-- 7, 9, then 8: "a text buffer too short", then 10
unfoldable pub next_tests : Run → List ℕ → ℕ → List Test
next_tests r rest room =
    test 7 (accepted r.plan)
    ∷ test 9 (counts_ok r.plan r.system)
    ∷ test 8 (leb (printed_size r.plan.actuators) room)
    ∷ line_test r rest
    ∷ []

-- the numbers of the line that is run
unfoldable pub taken : Run → List ℕ → ℕ → Option (List ℕ)
taken r rest room = if_passed (next_tests r rest room) (next_numbers r rest) None

unfoldable pub run_taken : Run → Option (List ℕ) → Run
run_taken r None = r
run_taken r (Some l) = run_after r l

-- how many bytes are printed, and the run afterwards
unfoldable pub next_answer : Run → List ℕ → ℕ → Result ℕ Refusal
next_answer r rest room = given (next_tests r rest room) (cond (is_some (taken r rest room)) (printed_size r.plan.actuators) 0)

unfoldable pub next_run : Run → List ℕ → ℕ → Run
next_run r rest room = run_taken r (taken r rest room)

unfoldable pub place_taken : Run → Option (List ℕ) → List ℕ → List ℕ
place_taken r None out = out
place_taken r (Some l) out =
    frame_line r.plan r.system r.single r.frame l ++ drop (printed_size r.plan.actuators) out

unfoldable pub next_place : Run → List ℕ → List ℕ → List ℕ
next_place r rest out = place_taken r (taken r rest (length out)) out
