-- The code's own: the digits of a number. No definition of document 01 cites this.
use Rattle.std.specs.Prelude.{ℕ, zero, suc, ◌/◌, ◌%◌, List, [], ◌∷◌, ◌++◌}

-- the last w digits of a number, the highest first
unfoldable pub digit_list : ℕ → ℕ → List ℕ
digit_list zero v = []
digit_list (suc w) v = digit_list w (v / 10) ++ (v % 10 ∷ [])
