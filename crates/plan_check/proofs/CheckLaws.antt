-- The line of R, and that it shows R; the two ways out of the program.
use Rattle.std.specs.Prelude.{None, Some, Ok, Err}
use mathlib.Core.Path.{◌≡◌, sym, ap, ◌∙◌}
use mathlib.Core.List.{List, [], ◌∷◌}
use Prim.Native.Nat.{ℕ, ◌+◌, ◌*◌, ◌^◌, ◌≤◌, ◌<◌}
use native.Mathlib.Omega.{arith}
use lib.ListN.{length, take, set}
use lib.Seq.{set_split}
use Rattle.array.specs.Code.{placed}
use Rattle.array.proofs.PlacedLaws.{placed-next, placed-length, front-taken}
use Rattle.answer.specs.declared.Refusal.{Refusal}
use Rattle.column.specs.Column.{column}
use Rattle.column.specs.Row.{row, numbers_shown}
use Rattle.column.proofs.ColumnLaws.{column-length}
use Rattle.column.proofs.RowLaws.{total, row-length, numbers-of-row}
use Rattle.plan.specs.Limits.{most_frames, most_cells}
use Rattle.plan.specs.Known.{period}
use Rattle.plan.proofs.AcceptedLaws.{shape-of-accepted, period-of-accepted, bound-small}
use Rattle.plan.proofs.PeriodLaws.{period-bound}
use Rattle.plan_grammar.specs.Meant.{plan_of}
use Rattle.plan_grammar.specs.Refused.{text_refusal}
use Rattle.plan_text.specs.declared.PlanRead.{PlanRead}
use Rattle.plan_text.specs.Code.{plan_found}
use Rattle.plan_text.proofs.TextLaws.{read-plan}
use Rattle.plan_text.proofs.GivenLaws.{found-given, none-found}
use Rattle.run_line.specs.Line.{refusal_line, refusal_size}
use Rattle.run_line.specs.Listing.{lines_or}
use Rattle.run_line.proofs.WritingLaws.{refusal-length}
use Rattle.plan_check.specs.CheckListing.{period_widths, period_line, check_listing}

-- ---- the line of R

-- a number of at most four digits is read back from its line
pub line-shown : (r : ℕ) → r < 10 ^ 4 → numbers_shown period_widths (period_line r) ≡ Some (r ∷ [])
unfolding period_line
line-shown r l = numbers-of-row period_widths (r ∷ []) (omega arith, l, omega (arith, l), tt)

pub line-length : (r : ℕ) → length (period_line r) ≡ 5
unfolding period_line total
line-length r = row-length period_widths _

-- the column, and the line feed behind it
pub line_row : (s : List ℕ) (r : ℕ) {a : List ℕ} → refusal_size ≤ length s → a ≡ placed s 0 (column 4 r) → set a 4 10 ≡ placed s 0 (period_line r)
unfolding period_line row
line_row s r {a} l e =
    let n : length a ≡ length s = ap length e ∙ placed-length s 0 (column 4 r) (omega (arith, column-length 4 r)) in
    set_split a 4 10 (omega arith) ∙ placed-next s 0 (column 4 r) a (10 ∷ []) 4 e (omega (arith, column-length 4 r)) (omega arith)

-- ---- an accepted text

module _ (text : List ℕ) (e : text_refusal text ≡ None) where
  pub listing-accepted : check_listing text ≡ period_line (period (plan_of text))
  unfolding check_listing lines_or
  listing-accepted = rw e

  -- R is at least 1
  pub period-above : 0 < period (plan_of text)
  period-above = period-of-accepted (plan_of text) (read-plan text e)

  -- and at most 513
  pub period-below : period (plan_of text) ≤ 1 + most_frames * most_cells
  period-below = omega (arith, period-bound (plan_of text), bound-small (plan_of text) (shape-of-accepted (plan_of text) (read-plan text e)))

  -- so what is printed is one line that shows R, no digit cut off: read back, it gives R and nothing else
  pub period-shown : numbers_shown period_widths (check_listing text) ≡ Some (period (plan_of text) ∷ [])
  period-shown = ap (numbers_shown period_widths) listing-accepted ∙ line-shown (period (plan_of text)) (omega (arith, period-below))

-- ---- the ways out of the program

module _ (text s : List ℕ) (room : refusal_size ≤ length s) where
  -- a refused text is printed as its refusal
  pub print-refused :
      {q : Refusal} {xs : List ℕ} →
      plan_found text ≡ Err q →
      xs ≡ placed s 0 (refusal_line q) →
      (refusal_size ≤ length xs) × (take refusal_size xs ≡ check_listing text)
  unfolding check_listing lines_or
  print-refused {q} e h =
      let front = front-taken s (refusal_line q) refusal_size (refusal-length q) room h in
      (front.0, front.1 ∙ rw (none-found text e))

  pub print-period :
      {x : PlanRead} {a : List ℕ} →
      plan_found text ≡ Ok x →
      a ≡ placed s 0 (column 4 x.period) →
      (5 ≤ length (set a 4 10)) × (take 5 (set a 4 10) ≡ check_listing text)
  print-period {x} e h =
      let read = found-given text e in
      let front = front-taken s (period_line x.period) 5 (line-length x.period) (omega (arith, room)) (line_row s x.period room h) in
      (front.0, front.1 ∙ ap (λ (y : PlanRead). period_line y.period) read.1 ∙ sym (listing-accepted text read.0))
