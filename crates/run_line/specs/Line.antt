-- Document 01, 'The run program': the lines of a run and of its listing. "A run line, its columns formed as a plan's: mask (width 4), fill (4), S
-- patterns (20 each), line feed".
use Rattle.std.specs.Prelude.{cond, ◌&&◌, List, [], ◌∷◌, ◌++◌, ℕ, ◌+◌, ◌*◌, ◌^◌, leb, ltb, get_or, drop, replicate, Option, None, Some}
use Rattle.column.specs.Row.{row, numbers_shown}
use Rattle.answer.specs.declared.Refusal.{Refusal}
use Rattle.answer.specs.Refusal.{number_of, line_of}

-- a pattern's column, in both
abbrev pub pattern_width : ℕ
pattern_width = 20

-- ---- a run line, with s sensors

abbrev pub mask_width : ℕ
mask_width = 4

abbrev pub fill_width : ℕ
fill_width = 4

-- where the patterns begin
abbrev pub sensors_at : ℕ
sensors_at = mask_width + fill_width

unfoldable pub run_widths : ℕ → List ℕ
run_widths s = mask_width ∷ fill_width ∷ replicate s pattern_width

abbrev pub run_line_size : ℕ → ℕ
run_line_size s = sensors_at + pattern_width * s + 1

-- its numbers
abbrev pub mask_in : List ℕ → ℕ
mask_in l = get_or l 0 0

abbrev pub fill_in : List ℕ → ℕ
fill_in l = get_or l 1 0

abbrev pub patterns_in : List ℕ → List ℕ
patterns_in l = drop 2 l

-- "10: a line not of form, mask ≥ 2^n, fill > 255": the numbers of a line to which none of these applies
unfoldable pub in_limits : ℕ → Option (List ℕ) → Option (List ℕ)
in_limits n None = None
in_limits n (Some l) = cond (ltb (mask_in l) (2 ^ n) && leb (fill_in l) 255) (Some l) None

-- under a plan of n nodes and s sensors
unfoldable pub run_numbers : ℕ → ℕ → List ℕ → Option (List ℕ)
run_numbers n s line = in_limits n (numbers_shown (run_widths s) line)

-- ---- a line of the listing, with a actuators: "frame number from 0 (width 8), nodes working in it (4), nodes whose memory then equals the single
-- controller's (4), A plane values (20 each)". Request 2026-02: "The run listing gets a last column of width 4"

abbrev pub agreement_width : ℕ
agreement_width = 4

unfoldable pub printed_widths : ℕ → List ℕ
printed_widths a = 8 ∷ 4 ∷ 4 ∷ (replicate a pattern_width ++ (agreement_width ∷ []))

-- where the plane values begin, and where the agreement stands behind them
abbrev pub plane_values_at : ℕ
plane_values_at = 16

abbrev pub agreement_at : ℕ → ℕ
agreement_at a = plane_values_at + pattern_width * a

abbrev pub printed_size : ℕ → ℕ
printed_size a = agreement_at a + agreement_width + 1

-- "A refusal prints number (4) and line (8)"
unfoldable pub refusal_line : Refusal → List ℕ
refusal_line a = row (4 ∷ 8 ∷ []) (number_of a ∷ line_of a ∷ [])

abbrev pub refusal_size : ℕ
refusal_size = 13
