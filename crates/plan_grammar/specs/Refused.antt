-- Document 01, 'Who can cause which refusal', by the plan's author: refusals over the text, with no reader's state. Each rule goes by the header, the
-- line's number, the line and the line before it.
use Rattle.std.specs.Prelude.{Bool, false, not, cond, ◌&&◌, ◌||◌, List, ℕ, zero, suc, ◌+◌, ◌-◌, ◌*◌, ◌%◌, eqb, leb, ltb, length, Option, None, Some}
use Rattle.answer.specs.declared.Refusal.{Refusal}
use Rattle.answer.specs.declared.Refusal.TheVariants.{TextLength, Malformed, Header, OutOfOrder, OutOfRange, Unrecoverable}
use Rattle.plan.specs.Limits.{most_tasks}
use Rattle.plan.specs.Known.{period}
use Rattle.plan.specs.Accepted.{header_ok, task_ok}
use Rattle.plan_grammar.specs.Line.{line_size, most_text_lines, line_count, numbers_at, line_at, kind_of, second, third, fourth, fifth, sixth, is_task, header_kind, cell_kind, take_kind, sum_kind, diff_kind, scale_kind, cam_kind, vote_kind, actuator_kind}
use Rattle.plan_grammar.specs.Meant.{task_of, plan_of}

-- "1: length 0, above 35,169, or no multiple of 57"
unfoldable pub length_ok : ℕ → Bool
length_ok n = ltb 0 n && leb n (line_size * most_text_lines) && eqb (n % line_size) 0

-- "3: the first line isn't kind 0, or a header number is outside its limits"
unfoldable pub is_header : List ℕ → Bool
is_header l = eqb (kind_of l) header_kind && header_ok (second l) (third l) (fourth l) (fifth l) (sixth l) 0

-- the header's numbers
abbrev pub frames_in : List ℕ → ℕ
frames_in h = third h

abbrev pub cells_in : List ℕ → ℕ
cells_in h = fourth h

abbrev pub sensors_in : List ℕ → ℕ
sensors_in h = fifth h

abbrev pub actuators_in : List ℕ → ℕ
actuators_in h = sixth h

-- ---- 4: "unknown kind, a line out of order (also a cell or actuator whose index is not the next one due), a 65th task"
-- Line j after the header h, from 0, where the line before it is prev. The cells are the C lines after the header.

-- the first line after the cells
unfoldable pub after_cells : List ℕ → ℕ → Bool
after_cells h j = eqb j (cells_in h)

-- "tasks .. at most 64, frames not falling"
unfoldable pub task_in_order : List ℕ → ℕ → List ℕ → List ℕ → Bool
task_in_order h j prev l =
    ltb j (cells_in h + most_tasks) && (after_cells h j || (is_task (kind_of prev) && leb (second prev) (second l)))

-- "votes, strictly rising by frame, then cell"
unfoldable pub smaller_vote : List ℕ → List ℕ → Bool
smaller_vote prev l =
    eqb (kind_of prev) vote_kind
    && (ltb (second prev) (second l) || (eqb (second prev) (second l) && ltb (third prev) (third l)))

unfoldable pub vote_in_order : List ℕ → ℕ → List ℕ → List ℕ → Bool
vote_in_order h j prev l = after_cells h j || (is_task (kind_of prev) || smaller_vote prev l)

-- "actuators 0 to A−1"
unfoldable pub actuator_in_order : List ℕ → ℕ → List ℕ → List ℕ → Bool
actuator_in_order h j prev l =
    ltb (second l) (actuators_in h)
    && cond (eqb (second l) 0)
    (after_cells h j || (is_task (kind_of prev) || eqb (kind_of prev) vote_kind))
    (eqb (kind_of prev) actuator_kind && eqb (second prev + 1) (second l))

unfoldable pub in_order : List ℕ → ℕ → List ℕ → List ℕ → Bool
in_order h j prev l =
    cond (eqb (kind_of l) cell_kind) (ltb j (cells_in h) && eqb (second l) j)
    (leb (cells_in h) j
    && cond (is_task (kind_of l)) (task_in_order h j prev l)
    (cond (eqb (kind_of l) vote_kind) (vote_in_order h j prev l)
    (cond (eqb (kind_of l) actuator_kind) (actuator_in_order h j prev l) false)))

-- ---- 5: "any other index out of range, an unused column not 0, constants against the rules"

-- the kinds of task whose 5th, and whose 6th column document 01's table shows as 0; of a cam "the columns of Sum but 0 as fifth"
abbrev pub fifth_unused : ℕ → Bool
fifth_unused kind = eqb kind take_kind || eqb kind cam_kind

abbrev pub sixth_unused : ℕ → Bool
sixth_unused kind = eqb kind take_kind || eqb kind sum_kind || eqb kind diff_kind || eqb kind scale_kind || eqb kind cam_kind

unfoldable pub task_zeros : List ℕ → Bool
task_zeros l = (not (fifth_unused (kind_of l)) || eqb (fifth l) 0) && (not (sixth_unused (kind_of l)) || eqb (sixth l) 0)

unfoldable pub in_range : List ℕ → List ℕ → Bool
in_range h l =
    cond (eqb (kind_of l) cell_kind) (eqb (third l) 0 && eqb (fourth l) 0 && eqb (sixth l) 0)
    (cond (is_task (kind_of l)) (task_ok (frames_in h) (cells_in h) (sensors_in h) (task_of l) && task_zeros l)
    (cond (eqb (kind_of l) vote_kind)
    (ltb (second l) (frames_in h) && ltb (third l) (cells_in h) && (eqb (fourth l) 0 && eqb (fifth l) 0 && eqb (sixth l) 0))
    (ltb (third l) (cells_in h) && (eqb (fourth l) 0 && eqb (fifth l) 0 && eqb (sixth l) 0))))

-- ---- the refusal of a text

-- what refuses line i, whose numbers are l
unfoldable pub rules_of : List ℕ → ℕ → List ℕ → List ℕ → Option Refusal
rules_of h zero prev l = cond (is_header l) None (Some Header)
rules_of h (suc j) prev l =
    cond (in_order h j prev l) (cond (in_range h l) None (Some (OutOfRange (suc j + 1)))) (Some (OutOfOrder (suc j + 1)))

-- "In one line 2 comes before 3 (first line only), then 4, then 5."
unfoldable pub form_or_rules : List ℕ → ℕ → List ℕ → Option (List ℕ) → Option Refusal
form_or_rules h i prev None = Some (Malformed (i + 1))
form_or_rules h i prev (Some l) = rules_of h i prev l

unfoldable pub line_refusal : List ℕ → ℕ → Option Refusal
line_refusal s i = form_or_rules (line_at s 0) i (line_at s (i - 1)) (numbers_at s i)

abbrev pub or_refusal : Option Refusal → Option Refusal → Option Refusal
or_refusal None o = o
or_refusal (Some a) o = Some a

-- "text, line by line": the refusal of the first of the first i lines that is refused
unfoldable pub first_refusal : List ℕ → ℕ → Option Refusal
first_refusal s zero = None
first_refusal s (suc i) = or_refusal (first_refusal s i) (line_refusal s i)

-- the last line is that of the last actuator: no cell and no actuator is missing
unfoldable pub is_last : List ℕ → List ℕ → Bool
is_last h l = eqb (kind_of l) actuator_kind && eqb (second l + 1) (actuators_in h)

-- "at the end, missing cells or actuators (line: one past the last)"
unfoldable pub end_refusal : List ℕ → Option Refusal
end_refusal s = cond (is_last (line_at s 0) (line_at s (line_count s - 1))) None (Some (OutOfOrder (line_count s + 1)))

-- "6: no R exists. Line 0, after all of 1 to 5."
unfoldable pub period_refusal : List ℕ → Option Refusal
period_refusal s = cond (eqb (period (plan_of s)) 0) (Some Unrecoverable) None

-- what refuses a text's lines: 2 to 5
unfoldable pub lines_refusal : List ℕ → Option Refusal
lines_refusal s = or_refusal (first_refusal s (line_count s)) (end_refusal s)

unfoldable pub text_refusal : List ℕ → Option Refusal
text_refusal s = cond (length_ok (length s)) (or_refusal (lines_refusal s) (period_refusal s)) (Some TextLength)
