-- Document 01, 'The plan': decimal numbers "right-justified in columns". "Only blanks stand before the digits. No leading zeros;
-- zero is `0`; no column is blank. The number of a column is read from the digits of the column, the blanks before them dropped.
-- The largest number is 2^64 − 1."
use Rattle.std.specs.Prelude.{ℕ, zero, suc, ◌+◌, ◌/◌, ◌%◌, cond, List, [], ◌∷◌, ◌++◌, ◌==◌, Option}
use Rattle.numeral.specs.Numeral.{numeral_of}

-- ---- reading

-- from where the blanks end; a blank is byte 32
unfoldable pub drop_blanks : List ℕ → List ℕ
drop_blanks [] = []
drop_blanks (b ∷ s) = cond (b == 32) (drop_blanks s) (b ∷ s)

-- the number that a column shows
unfoldable pub number_shown : List ℕ → Option ℕ
number_shown s = numeral_of (drop_blanks s)

-- ---- writing

-- the byte for what is left of a number, its last digit; a blank where nothing is left
unfoldable pub mark : ℕ → ℕ
mark q = cond (q == 0) 32 (48 + q % 10)

-- the w bytes before a number's last digit, where q is the number without that digit
unfoldable pub front : ℕ → ℕ → List ℕ
front zero q = []
front (suc w) q = front w (q / 10) ++ (mark q ∷ [])

-- the column of width w that shows v, for v < 10^w; of a wider number, its last w digits
unfoldable pub column : ℕ → ℕ → List ℕ
column zero v = []
column (suc w) v = front w (v / 10) ++ ((48 + v % 10) ∷ [])
