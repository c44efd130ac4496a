-- A rule of a table: tested once over all of its entries, one after another, and carried to each place.
use mathlib.Core.Path.{◌≡◌, ◌∙◌, sym, subst}
use mathlib.Core.Bool.{Bool, true, ◌&&◌}
use mathlib.Core.List.{List, [], ◌∷◌}
use Prim.Native.Nat.{ℕ, zero, suc, ◌+◌, ◌<◌}
use native.Mathlib.Nat.{add-zero, zero-add, add-suc, suc-add, le_of_suc-le-suc, not-suc-le-zero}
use lib.ListN.{length, get_or}
use Rattle.array.proofs.TestLaws.{and_left, and_right}

module _ (q : ℕ → ℕ → Bool) where
  -- every entry passes the test at its place, the first of them at place i
  unfoldable pub every_from : ℕ → List ℕ → Bool
  every_from i [] = true
  every_from i (x ∷ l) = q i x && every_from (suc i) l

  every_from-at : (l : List ℕ) (i : ℕ) → every_from i l ≡ true → (k : ℕ) → k < length l → q (i + k) (get_or l k 0) ≡ true
  unfolding every_from
  every_from-at [] i e k h = absurd (not-suc-le-zero h)
  every_from-at (x ∷ l) i e zero h = subst (λ (m : ℕ). q m x ≡ true) (sym (add-zero i)) (and_left (q i x) (every_from (suc i) l) e)
  every_from-at (x ∷ l) i e (suc k) h =
      subst (λ (m : ℕ). q m (get_or l k 0) ≡ true) (suc-add i k ∙ sym (add-suc i k))
      (every_from-at l (suc i) (and_right (q i x) (every_from (suc i) l) e) k (le_of_suc-le-suc h))

  pub every-at : (l : List ℕ) → every_from 0 l ≡ true → (k : ℕ) → k < length l → q k (get_or l k 0) ≡ true
  every-at l e k h = subst (λ (m : ℕ). q m (get_or l k 0) ≡ true) (zero-add k) (every_from-at l 0 e k h)
