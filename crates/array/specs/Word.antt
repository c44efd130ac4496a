-- Big-endian numbers in bytes.
use Rattle.std.specs.Prelude.{List, [], ◌∷◌, ◌++◌, ℕ, zero, suc, ◌+◌, ◌*◌, ◌/◌, ◌%◌, get_or}

-- the number of the n bytes from a place
unfoldable pub be : ℕ → List ℕ → ℕ → ℕ
be zero s at = 0
be (suc k) s at = be k s at * 256 + get_or s (at + k) 0

-- the n bytes of a number
unfoldable pub bytes : ℕ → ℕ → List ℕ
bytes zero x = []
bytes (suc k) x = bytes k (x / 256) ++ (x % 256 ∷ [])
