-- Document 01, 'The plan': "No leading zeros; zero is `0` .. The largest number is 2^64 − 1." What digits show, the blanks before them dropped.
use Rattle.std.specs.Prelude.{ℕ, zero, suc, ◌+◌, ◌-◌, ◌*◌, ◌^◌, Bool, cond, not, ◌&&◌, ◌||◌, List, length, ◌==◌, nat_le, nat_lt, slice_index, Option, None, Some}
use Rattle.array.specs.Index.{all_below}

abbrev pub is_digit : ℕ → Bool
is_digit b = nat_le 48 b && nat_le b 57

-- the number that the first n digits are
unfoldable pub decimal : List ℕ → ℕ → ℕ
decimal d zero = 0
decimal d (suc k) = decimal d k * 10 + (slice_index d k - 48)

-- digits and nothing else, at least one, and no zero before others
unfoldable pub is_numeral : List ℕ → Bool
is_numeral d =
    nat_lt 0 (length d) && (not (slice_index d 0 == 48) || length d == 1)
    && all_below (λ i. is_digit (slice_index d i)) (length d)

-- the number that digits show, if they are of the form and it is below 2^64
unfoldable pub numeral_of : List ℕ → Option ℕ
numeral_of d = cond (is_numeral d && nat_lt (decimal d (length d)) (2 ^ 64)) (Some (decimal d (length d))) None
