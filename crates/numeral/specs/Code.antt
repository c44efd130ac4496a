-- The code's own: digits from a place on. No definition of document 01 cites this.
use Rattle.std.specs.Prelude.{ℕ, zero, suc, ◌+◌, ◌-◌, ◌*◌, List, slice_index}

-- the number that n digits from a place on are
unfoldable pub decimal_from : List ℕ → ℕ → ℕ → ℕ
decimal_from d i zero = 0
decimal_from d i (suc k) = decimal_from d i k * 10 + (slice_index d (i + k) - 48)
