-- Laws of `least` and `lesser`: a loop's start and one more, what is at most the least, and where one is taken.
use Rattle.std.specs.Prelude.{Option, None, Some, unwrap_or}
use mathlib.Core.Path.{◌≡◌, refl}
use mathlib.Core.Bool.{Bool, true, false}
use Prim.Native.Nat.{ℕ, zero, suc, ◌+◌, ◌≤◌, ◌<◌, min}
use native.Mathlib.Omega.{arith}
use native.Mathlib.Nat.{not-suc-le-zero}
use native.Mathlib.Numerals.{add-one}
use lib.Dec.{eqb, ltb}
use borrow.Author.Tests.{eqb-true, eqb-false, ltb-true, ltb-false}
use Rattle.array.specs.Index.{lesser, least}
use Rattle.array.proofs.TestLaws.{split, clash}

lesser-more : (x y : ℕ) (o : Option ℕ) → lesser x (Some (lesser y o)) ≡ min (lesser x o) y
unfolding lesser
lesser-more x y None = refl
lesser-more x y (Some z) = omega arith

min-of : (P : ℕ → Type 0) (x y : ℕ) → P x → P y → P (min x y)
min-of P x y a b =
    split (ltb x y)
    (λ t. let e : min x y ≡ x = omega (arith, ltb-true x y t) in rw e a)
    (λ t. let e : min x y ≡ y = omega (arith, ltb-false x y t) in rw e b)

pub lesser-first : (x : ℕ) (o : Option ℕ) → lesser x o ≤ x
unfolding lesser
lesser-first x None = omega arith
lesser-first x (Some z) = omega arith

module _ (take : ℕ → Bool) (f : ℕ → ℕ) where
  pub least-none : (x : ℕ) → x ≡ lesser x (least take f 0)
  unfolding lesser least
  least-none x = refl

  -- one more, that is taken or is not
  module _ (x k : ℕ) {r : ℕ} (h : r ≡ lesser x (least take f k)) where
    pub least-taken : {y : ℕ} → take k ≡ true → y ≡ f k → min r y ≡ lesser x (least take f (k + 1))
    unfolding least
    least-taken t e = rw (add-one k, t, h, e, lesser-more x (f k) (least take f k))

    pub least-left : take k ≡ false → r ≡ lesser x (least take f (k + 1))
    unfolding least
    least-left t = rw (add-one k, t, h)

  -- ---- what is at most the least

  pub least-below : (n x y : ℕ) → y ≤ lesser x (least take f n) → (y ≤ x) × ((k : ℕ) → k < n → take k ≡ true → y ≤ f k)
  unfolding least lesser
  least-below zero x y = λ h. (h, λ k l. absurd (not-suc-le-zero l))
  least-below (suc n) x y =
      split (take n)
      (λ t.
      rw t (λ h.
      let r = least-below n (f n) y (omega arith) in (
        omega arith,
        λ k l u. split (eqb k n) (λ q. rw (eqb-true k n q) r.0) (λ q. r.1 k (omega (arith, eqb-false k n q)) u),
      )))
      (λ t.
      rw t (λ h.
      let r = least-below n x y h in (
        r.0,
        λ k l u. split (eqb k n) (λ q. absurd (clash (rw (eqb-true k n q) at u) t)) (λ q. r.1 k (omega (arith, eqb-false k n q)) u),
      )))

  -- what holds of all of them holds of the least
  pub least-of : (P : ℕ → Type 0) (n x : ℕ) → P x → ((k : ℕ) → k < n → take k ≡ true → P (f k)) → P (lesser x (least take f n))
  unfolding least lesser
  least-of P zero x h g = h
  least-of P (suc n) x h g =
      split (take n)
      (λ t. rw t (min-of P x _ h (least-of P n (f n) (g n (omega arith) t) (λ k l. g k (omega arith)))))
      (λ t. rw t (least-of P n x h (λ k l. g k (omega arith))))

  -- ---- where none is taken, and where one is

  pub least-missing : (n : ℕ) → ((k : ℕ) → k < n → take k ≡ false) → least take f n ≡ None
  unfolding least
  least-missing zero g = refl
  least-missing (suc n) g = rw (g n (omega arith), least-missing n (λ k l. g k (omega arith)))

  least-some : (n k : ℕ) → k < n → take k ≡ true → (y : ℕ) × (least take f n ≡ Some y)
  unfolding least
  least-some zero k l t = absurd (not-suc-le-zero l)
  least-some (suc n) k l t =
      split (take n)
      (λ u. rw u (lesser (f n) (least take f n), refl))
      (λ u. rw u (least-some n k (split (eqb k n) (λ q. absurd (clash (rw (eqb-true k n q) at t) u)) (λ q. omega (arith, eqb-false k n q))) t))

  -- a number that is not below one of them does not count
  pub least-of-taken : (n k x : ℕ) → k < n → take k ≡ true → f k ≤ x → unwrap_or (least take f n) 0 ≡ lesser x (least take f n)
  unfolding lesser
  least-of-taken n k x l t h =
      let s = least-some n k l t in
      let low : s.0 ≤ f k = (least-below n s.0 s.0 (rw s.1 (omega arith))).1 k l t in
      rw s.1 (omega arith)

  -- what holds of all that are taken, one at least, holds of the least of them
  pub least-of-some :
      (P : ℕ → Type 0) (n k : ℕ) → k < n → take k ≡ true → ((j : ℕ) → j < n → take j ≡ true → P (f j)) → P (unwrap_or (least take f n) 0)
  least-of-some P n k l t g = rw (least-of-taken n k (f k) l t (omega arith)) (least-of P n (f k) (g k l t) g)

-- the same numbers of the same ones
pub least-same :
    (take take' : ℕ → Bool) (f g : ℕ → ℕ) (n : ℕ) →
    ((k : ℕ) → k < n → take k ≡ take' k) → ((k : ℕ) → k < n → take' k ≡ true → f k ≡ g k) → least take f n ≡ least take' g n
unfolding least
least-same take take' f g zero e h = refl
least-same take take' f g (suc n) e h =
    split (take' n)
    (λ t. rw (e n (omega arith), t, h n (omega arith) t, least-same take take' f g n (λ k l. e k (omega arith)) (λ k l. h k (omega arith))))
    (λ t. rw (e n (omega arith), t, least-same take take' f g n (λ k l. e k (omega arith)) (λ k l. h k (omega arith))))
