-- Laws of `all_below` and `how_many`: nothing yet, one more, each place after. Laws of `all_in`: each entry.
use mathlib.Core.Path.{◌≡◌, refl, sym, ap, subst}
use mathlib.Core.Bool.{Bool, true, false, cond}
use mathlib.Core.List.Memᴰ
use mathlib.Core.List.{List, [], ◌∷◌, Memᴰ}
use mathlib.Core.Logic.{⊎_elim}
use Prim.Native.Nat.{ℕ, zero, suc, ◌+◌, ◌≤◌, ◌<◌}
use native.Mathlib.Omega.{arith}
use native.Mathlib.Nat.{le_refl, not-suc-le-zero}
use native.Mathlib.Numerals.{add-one}
use lib.Dec.{eqb}
use lib.ListN.{take}
use borrow.Author.Tests.{eqb-true, eqb-false}
use Rattle.array.specs.Index.{how_many, all_below, all_in}
use Rattle.array.proofs.TestLaws.{split, and_left, and_right, and_both, clash}

-- ---- all pass

module _ (q : ℕ → Bool) where
  pub all_below-none : all_below q 0 ≡ true
  unfolding all_below
  all_below-none = refl

  pub all_below-more : (n : ℕ) → all_below q n ≡ true → q n ≡ true → all_below q (n + 1) ≡ true
  unfolding all_below
  all_below-more n h k = rw (add-one n) (and_both h k)

  pub all_below-at : (n k : ℕ) → k < n → all_below q n ≡ true → q k ≡ true
  unfolding all_below
  all_below-at zero k l e = absurd (not-suc-le-zero l)
  all_below-at (suc n) k l e =
      split (eqb k n)
      (λ t. subst (λ (x : ℕ). q x ≡ true) (sym (eqb-true k n t)) (and_right (all_below q n) (q n) e))
      (λ t. all_below-at n k (omega (arith, eqb-false k n t)) (and_left (all_below q n) (q n) e))

  pub all_below-all : (n : ℕ) → ((k : ℕ) → k < n → q k ≡ true) → all_below q n ≡ true
  unfolding all_below
  all_below-all zero f = refl
  all_below-all (suc n) f = and_both (all_below-all n (λ k l. f k (omega arith))) (f n (omega arith))

  -- one that fails is enough
  pub all_below-fails : (n k : ℕ) → k < n → q k ≡ false → all_below q n ≡ false
  all_below-fails n k l e = split (all_below q n) (λ t. absurd (clash (all_below-at n k l t) e)) (λ t. t)

  -- where not all pass, one fails
  pub all_below-not : (n : ℕ) → all_below q n ≡ false → (k : ℕ) × (k < n) × (q k ≡ false)
  unfolding all_below
  all_below-not zero = λ e. absurd (clash refl e)
  all_below-not (suc n) =
      split (all_below q n)
      (λ t. rw t (λ e. (n, omega arith, e)))
      (λ t. rw t (λ e. let r = all_below-not n t in (r.0, omega (arith, r.1), r.2)))

-- ---- every entry of a list passes

module _ (q : ℕ → Bool) where
  pub all_in-at : (l : List ℕ) {x : ℕ} → all_in q l ≡ true → Memᴰ x l → q x ≡ true
  unfolding all_in
  all_in-at [] e m = absurd (Memᴰ.not-nil m)
  all_in-at (y ∷ l) e m =
      ⊎_elim (λ p. rw p (and_left (q y) (all_in q l) e)) (λ n. all_in-at l (and_right (q y) (all_in q l) e) n) (Memᴰ.cases_cons m)

  pub all_in-all : (l : List ℕ) → ((x : ℕ) → Memᴰ x l → q x ≡ true) → all_in q l ≡ true
  unfolding all_in
  all_in-all [] f = refl
  all_in-all (y ∷ l) f = and_both (f y (Memᴰ.head refl)) (all_in-all l (λ x m. f x (Memᴰ.tail m)))

  -- of the first k entries
  pub all_in-take : (k : ℕ) (l : List ℕ) → all_in q l ≡ true → all_in q (take k l) ≡ true
  unfolding all_in
  all_in-take zero l e = refl
  all_in-take (suc k) [] e = refl
  all_in-take (suc k) (x ∷ l) e = and_both (and_left (q x) (all_in q l) e) (all_in-take k l (and_right (q x) (all_in q l) e))

-- ---- how many pass

-- a test as a number
bit_le : (a b : Bool) → (a ≡ true → b ≡ true) → cond a 1 0 ≤ cond b 1 0
bit_le true b f = subst (λ (x : Bool). 1 ≤ cond x 1 0) (sym (f refl)) (le_refl 1)
bit_le false b f = omega arith

bit-two : (a b : Bool) → (a ≡ true → b ≡ true → ⊥) → cond a 1 0 + cond b 1 0 ≤ 1
bit-two true true f = absurd (f refl refl)
bit-two true false f = omega arith
bit-two false true f = omega arith
bit-two false false f = omega arith

bit-one : (a : Bool) → cond a 1 0 ≤ 1
bit-one true = omega arith
bit-one false = omega arith

module _ (q : ℕ → Bool) where
  pub how_many-none : how_many q 0 ≡ 0
  unfolding how_many
  how_many-none = refl

  pub how_many-hit : (n : ℕ) → q n ≡ true → how_many q (n + 1) ≡ how_many q n + 1
  unfolding how_many
  how_many-hit n e = rw (add-one n, e)

  pub how_many-miss : (n : ℕ) → q n ≡ false → how_many q (n + 1) ≡ how_many q n
  unfolding how_many
  how_many-miss n e = rw (add-one n, e) (omega arith)

  pub how_many-bound : (n : ℕ) → how_many q n ≤ n
  unfolding how_many
  how_many-bound zero = omega arith
  how_many-bound (suc n) = omega (arith, how_many-bound n, bit-one (q n))

  pub how_many-grows : (k n : ℕ) → k ≤ n → how_many q k ≤ how_many q n
  unfolding how_many
  how_many-grows k zero l = let e : k ≡ 0 = omega arith in rw e (omega arith)
  how_many-grows k (suc n) l =
      split (eqb k (suc n))
      (λ t. rw (eqb-true k (suc n) t) (omega arith))
      (λ t. omega (arith, how_many-grows k n (omega (arith, eqb-false k (suc n) t))))

  -- where one is counted, one passes
  pub how_many-some : (n : ℕ) → 0 < how_many q n → (k : ℕ) × (k < n) × (q k ≡ true)
  unfolding how_many
  how_many-some zero h = absurd (not-suc-le-zero h)
  how_many-some (suc n) h =
      split (q n) (λ t. (n, omega arith, t)) (λ t. let r = how_many-some n (more t) in (r.0, omega (arith, r.1), r.2))
    where
      more : q n ≡ false → 0 < how_many q n
      more t = omega (arith, ap {B = ℕ} (λ (b : Bool). cond b 1 0) t)

  -- all are counted exactly where all pass
  pub how_many-all : (n : ℕ) → how_many q n ≡ n → (k : ℕ) → k < n → q k ≡ true
  unfolding how_many
  how_many-all zero h k l = absurd (not-suc-le-zero l)
  how_many-all (suc n) h k l =
      split (eqb k n)
      (λ t. subst (λ (x : ℕ). q x ≡ true) (sym (eqb-true k n t)) last)
      (λ t. how_many-all n (omega (arith, h, how_many-bound n, bit-one (q n))) k (omega (arith, eqb-false k n t)))
    where
      last : q n ≡ true
      last = split (q n) (λ e. e) (λ e. absurd (omega (arith, h, how_many-bound n, ap {B = ℕ} (λ (b : Bool). cond b 1 0) e)))

  -- the first apart from those after it
  pub how_many-first : (n : ℕ) → how_many q (suc n) ≡ cond (q 0) 1 0 + how_many (λ i. q (suc i)) n
  unfolding how_many
  how_many-first zero = omega arith
  how_many-first (suc n) = omega (arith, how_many-first n)

  pub how_many-every : (n : ℕ) → ((k : ℕ) → k < n → q k ≡ true) → how_many q n ≡ n
  unfolding how_many
  how_many-every zero f = refl
  how_many-every (suc n) f = rw (f n (omega arith)) (omega (arith, how_many-every n (λ k l. f k (omega arith))))

module _ (q r : ℕ → Bool) where
  pub how_many-same : (n : ℕ) → ((i : ℕ) → i < n → q i ≡ r i) → how_many q n ≡ how_many r n
  unfolding how_many
  how_many-same zero e = refl
  how_many-same (suc n) e = rw (how_many-same n (λ i l. e i (omega arith)), e n (omega arith))

  pub how_many-le : (n : ℕ) → ((k : ℕ) → k < n → q k ≡ true → r k ≡ true) → how_many q n ≤ how_many r n
  unfolding how_many
  how_many-le zero f = omega arith
  how_many-le (suc n) f = omega (arith, how_many-le n (λ k l e. f k (omega arith) e), bit_le (q n) (r n) (f n (omega arith)))

  -- two tests that none passes together
  pub how_many-apart : (n : ℕ) → ((k : ℕ) → q k ≡ true → r k ≡ true → ⊥) → how_many q n + how_many r n ≤ n
  unfolding how_many
  how_many-apart zero f = omega arith
  how_many-apart (suc n) f = omega (arith, how_many-apart n f, bit-two (q n) (r n) (f n))
