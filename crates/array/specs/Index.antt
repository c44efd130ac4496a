-- Definitions that recur on an index, as a loop over 0 .. n-1 does, and on a list.
use Rattle.std.specs.Prelude.{Bool, true, cond, ◌&&◌, List, [], ◌∷◌, ◌++◌, ℕ, zero, suc, ◌+◌, min, get_or, set, Option, None, Some}

-- how many of 0 .. n-1 pass the test
unfoldable pub how_many : (ℕ → Bool) → ℕ → ℕ
how_many q zero = 0
how_many q (suc k) = how_many q k + cond (q k) 1 0

-- all of 0 .. n-1 pass the test
unfoldable pub all_below : (ℕ → Bool) → ℕ → Bool
all_below q zero = true
all_below q (suc k) = all_below q k && q k

-- the lesser of a number and of one that may be missing
unfoldable pub lesser : ℕ → Option ℕ → ℕ
lesser x None = x
lesser x (Some y) = min x y

-- the least f k of the k in 0 .. n-1 that are taken; none where none is
unfoldable pub least : (ℕ → Bool) → (ℕ → ℕ) → ℕ → Option ℕ
least take f zero = None
least take f (suc k) = cond (take k) (Some (lesser (f k) (least take f k))) (least take f k)

-- every entry of a list passes the test
unfoldable pub all_in : (ℕ → Bool) → List ℕ → Bool
all_in q [] = true
all_in q (x ∷ l) = q x && all_in q l

module _ {A : Type 0} where
  -- the list with f k stored at each place k below n; the places from n on stay
  unfoldable pub fill : (ℕ → A) → ℕ → List A → List A
  fill f zero l = l
  fill f (suc k) l = set (fill f k l) k (f k)

  -- the lists f 0, f 1, .. f (n-1), one after another
  unfoldable pub joined : (ℕ → List A) → ℕ → List A
  joined f zero = []
  joined f (suc k) = joined f k ++ f k

  -- the n entries of a list from a place, the default d past its end
  unfoldable pub from : A → List A → ℕ → ℕ → List A
  from d s at zero = []
  from d s at (suc k) = from d s at k ++ (get_or s (at + k) d ∷ [])
