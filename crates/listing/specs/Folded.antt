-- The calls made one after another, as a program makes them: start from the plan text; then the next line of what is left, until nothing is left or a
-- line is refused. The listing is what they print (proofs/FoldedLaws).
use Rattle.std.specs.Prelude.{cond, List, [], ◌++◌, ℕ, zero, suc, eqb, take, drop, replicate, Result, Ok, Err}
use Rattle.answer.specs.declared.Refusal.{Refusal}
use Rattle.run_line.specs.Line.{run_line_size, printed_size, refusal_line}
use Rattle.run_line.specs.Listing.{most_run_lines}
use Rattle.lines.specs.declared.Run.{Run}
use Rattle.lines.specs.Blocks.{blocks_listing}
use Rattle.listing_start.specs.Answers.{start_answer}
use Rattle.listing.specs.Answers.{next_answer, next_run, next_place}

-- a buffer for a line
abbrev pub blank : Run → List ℕ
blank r = replicate (printed_size r.plan.actuators) 0

-- what the next call gives, and the run after it
abbrev pub next_of : Run → List ℕ → Result ℕ Refusal
next_of r rest = next_answer r rest (printed_size r.plan.actuators)

abbrev pub next_left : Run → List ℕ → Run
next_left r rest = next_run r rest (printed_size r.plan.actuators)

-- the lines after a call, or the line of its refusal
abbrev pub lines_after : {A : Type 0} → Result A Refusal → (A → List ℕ) → List ℕ
lines_after (Ok x) lines = lines x
lines_after (Err refusal) lines = refusal_line refusal

-- what at most k calls print
unfoldable pub printed_by : ℕ → Run → List ℕ → List ℕ
printed_by zero r rest = []
printed_by (suc k) r rest =
    lines_after (next_of r rest)
    (λ count.
    cond (eqb count 0) []
    (take count (next_place r rest (blank r)) ++ printed_by k (next_left r rest) (drop (run_line_size r.plan.sensors) rest)))

unfoldable pub folded : List ℕ → List ℕ → List ℕ
folded plan run = lines_after (start_answer plan) (λ r. printed_by (suc most_run_lines) r run)

-- the run in blocks, as the program reads it
unfoldable pub by_blocks : List ℕ → List (List ℕ) → List ℕ
by_blocks plan blocks = lines_after (start_answer plan) (λ r. blocks_listing r blocks)
