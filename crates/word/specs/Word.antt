-- Little-endian words: bytes as one number, the first lowest, and the bytes of a number.
use Rattle.std.specs.Prelude.{ℕ, zero, suc, ◌+◌, ◌*◌, ◌/◌, ◌%◌, cond, List, [], ◌∷◌, eqb, get_or}

-- the number whose bytes these are
unfoldable pub word_of : List ℕ → ℕ
word_of [] = 0
word_of (b ∷ s) = b + 256 * word_of s

-- the number of the m bytes from a place on
unfoldable pub word_at : ℕ → List ℕ → ℕ → ℕ
word_at zero s i = 0
word_at (suc m) s i = get_or s i 0 + 256 * word_at m s (i + 1)

-- the m lowest bytes of a number
unfoldable pub bytes_of : ℕ → ℕ → List ℕ
bytes_of zero w = []
bytes_of (suc m) w = w % 256 ∷ bytes_of m (w / 256)

-- how many of the m lowest bytes are b, up to the first other
unfoldable pub low_run : ℕ → ℕ → ℕ → ℕ
low_run b zero w = 0
low_run b (suc m) w = cond (eqb (w % 256) b) (suc (low_run b m (w / 256))) 0
