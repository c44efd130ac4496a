-- Document 01, 'The plan': "A text of lines of 57 bytes: six decimal numbers, right-justified in columns of width 4, 4, 4, 4, 20, 20, then a line feed".
-- A line is a block of 57 bytes; its meaning is its six numbers.
use Rattle.std.specs.Prelude.{Bool, ◌&&◌, List, [], ◌∷◌, ℕ, ◌+◌, ◌*◌, ◌/◌, leb, length, get_or, Option, unwrap_or}
use Rattle.std.proofs.Math.Seq.{slice}
use Rattle.column.specs.Row.{numbers_shown}

abbrev pub widths : List ℕ
widths = 4 ∷ 4 ∷ 4 ∷ 4 ∷ 20 ∷ 20 ∷ []

abbrev pub line_size : ℕ
line_size = 57

-- "The longest text has 617 lines, 35,169 bytes."
abbrev pub most_text_lines : ℕ
most_text_lines = 617

-- how many lines a text has, and the numbers of line i from 0, if it is of the form
abbrev pub line_count : List ℕ → ℕ
line_count s = length s / line_size

unfoldable pub numbers_at : List ℕ → ℕ → Option (List ℕ)
numbers_at s i = numbers_shown widths (slice (line_size * i) (line_size * i + line_size) s)

unfoldable pub line_at : List ℕ → ℕ → List ℕ
line_at s i = unwrap_or (numbers_at s i) []

-- the columns of a line
abbrev pub kind_of : List ℕ → ℕ
kind_of l = get_or l 0 0

abbrev pub second : List ℕ → ℕ
second l = get_or l 1 0

abbrev pub third : List ℕ → ℕ
third l = get_or l 2 0

abbrev pub fourth : List ℕ → ℕ
fourth l = get_or l 3 0

abbrev pub fifth : List ℕ → ℕ
fifth l = get_or l 4 0

abbrev pub sixth : List ℕ → ℕ
sixth l = get_or l 5 0

-- the kinds
abbrev pub header_kind : ℕ
header_kind = 0

abbrev pub cell_kind : ℕ
cell_kind = 1

abbrev pub take_kind : ℕ
take_kind = 10

abbrev pub sum_kind : ℕ
sum_kind = 11

abbrev pub diff_kind : ℕ
diff_kind = 12

abbrev pub scale_kind : ℕ
scale_kind = 13

abbrev pub limit_kind : ℕ
limit_kind = 14

abbrev pub wind_kind : ℕ
wind_kind = 15

-- request 2026-01
abbrev pub cam_kind : ℕ
cam_kind = 16

abbrev pub vote_kind : ℕ
vote_kind = 20

abbrev pub actuator_kind : ℕ
actuator_kind = 30

-- "Document 01's six task kinds, 10–15, become seven, 10–16"
unfoldable pub is_task : ℕ → Bool
is_task kind = leb take_kind kind && leb kind cam_kind
