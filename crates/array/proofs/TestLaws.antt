-- Laws of Bools and tests that proofs by cases use.
use mathlib.Core.Path.{◌≡◌, refl, sym, ◌∙◌}
use mathlib.Core.Bool.{Bool, true, false, not, ◌&&◌}
use Prim.Native.Nat.{ℕ}
use native.Mathlib.Omega.{arith}
use borrow.Author.Tests.{not-true, not-false}

-- by the two cases of a test, each with the test's equation
pub split : {X : Type 0} (b : Bool) → (b ≡ true → X) → (b ≡ false → X) → X
split true f g = f refl
split false f g = g refl

pub clash : {b : Bool} → b ≡ true → b ≡ false → ⊥
clash p q = let z : ◌≡◌ {A = ℕ} 0 1 = cc in omega arith

pub and_left : (a b : Bool) → (a && b) ≡ true → a ≡ true
and_left true b e = refl
and_left false b e = e

pub and_right : (a b : Bool) → (a && b) ≡ true → b ≡ true
and_right true b e = e
and_right false b e = absurd (clash e refl)

pub and_both : {a b : Bool} → a ≡ true → b ≡ true → (a && b) ≡ true
and_both p q = rw (p, q)

pub and-false-left : {a : Bool} (b : Bool) → a ≡ false → (a && b) ≡ false
and-false-left b p = rw p

pub and-false-right : (a : Bool) {b : Bool} → b ≡ false → (a && b) ≡ false
and-false-right true q = q
and-false-right false q = refl

-- ---- a test that the code negates

module _ {t x : Bool} (e : t ≡ x) where
  pub refused-test : not t ≡ true → x ≡ false
  refused-test h = sym e ∙ not-true t h

  pub passed-test : not t ≡ false → x ≡ true
  passed-test h = sym e ∙ not-false t h
