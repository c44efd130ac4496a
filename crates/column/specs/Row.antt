-- A row: numbers in columns of given widths, then a line feed (byte 10). Plan lines, run lines and listing lines are rows.
use Rattle.std.specs.Prelude.{ℕ, ◌+◌, ◌^◌, ◌<◌, cond, ◌&&◌, List, [], ◌∷◌, ◌++◌, length, ◌==◌, slice_index, Option, None, Some}
use Rattle.std.proofs.Math.Seq.{slice}
use Rattle.column.specs.Column.{column, number_shown}

-- ---- writing

-- the numbers vs in columns of the widths ws; a number that is missing is written as 0
unfoldable pub row : List ℕ → List ℕ → List ℕ
row [] vs = 10 ∷ []
row (w ∷ ws) [] = column w 0 ++ row ws []
row (w ∷ ws) (v ∷ vs) = column w v ++ row ws vs

-- each number has room in its column, and there is a number for each column
abbrev pub Room : List ℕ → List ℕ → Type 0
Room [] [] = Unit
Room [] (v ∷ vs) = ⊥
Room (w ∷ ws) [] = ⊥
Room (w ∷ ws) (v ∷ vs) = (0 < w) × (v < 10 ^ w) × (v < 2 ^ 64) × Room ws vs

-- ---- reading

-- one number more, if both were read
abbrev pub and_then : Option ℕ → Option (List ℕ) → Option (List ℕ)
and_then None r = None
and_then (Some v) None = None
and_then (Some v) (Some vs) = Some (v ∷ vs)

-- the numbers that the columns of the widths ws show from a place on, if a line feed ends them and the line
unfoldable pub numbers_from : ℕ → List ℕ → List ℕ → Option (List ℕ)
numbers_from at [] s = cond (length s == at + 1 && slice_index s at == 10) (Some []) None
numbers_from at (w ∷ ws) s = and_then (number_shown (slice at (at + w) s)) (numbers_from (at + w) ws s)

-- the numbers of a row of columns of the widths ws
unfoldable pub numbers_shown : List ℕ → List ℕ → Option (List ℕ)
numbers_shown ws s = numbers_from 0 ws s
