-- What each test of the code says of `numeral_of`.
use Rattle.std.specs.Prelude.{None, Some}
use Rattle.std.proofs.Common.{◌≡◌, ℕ, zero, suc, ◌+◌, ◌-◌, ◌*◌, ◌%◌, ◌^◌, ◌<◌, ◌≤◌, Bool, true, false, ◌&&◌, ◌||◌, eqb, ltb, leb, List, length, get_or, refl, ap, ◌∙◌, le_trans, lt_of_lt_of_le, add-zero, add-suc, pow-suc, add-one, arith, lit<, ltb-false, ltb-true, le-ltb, lt-ltb, eq-eqb, ne_eqb, eqb-true, le-leb, leb-false, leb-true}
use mathlib.Core.Bool.{and-false}
use native.Mathlib.Nat.{pow-le-pow_right}
use borrow.Author.Tests.{lt-leb, eqb-false}
use Rattle.array.specs.Index.{all_below}
use Rattle.array.proofs.TestLaws.{split, clash, and_left, and_right}
use Rattle.array.proofs.IndexLaws.{all_below-more, all_below-fails}
use Rattle.numeral.specs.Numeral.{is_digit, decimal, is_numeral, numeral_of}
use Rattle.numeral.specs.Code.{decimal_from}

second-or : (a b : Bool) → (a || b) ≡ true → a ≡ false → b ≡ true
second-or true b e f = absurd (clash refl f)
second-or false b e f = e

none_or : (a b : Bool) → (a || b) ≡ false → (a ≡ false) × (b ≡ false)
none_or true b e = absurd (clash refl e)
none_or false b e = (refl, e)

-- ---- what a byte shows

-- what `digit` says of a byte
abbrev pub DigitIs : ℕ → ℕ → Type 0
DigitIs b r = (is_digit b ≡ true → r ≡ b - 48) × (is_digit b ≡ false → 9 < r)

module _ (b : ℕ) {r : ℕ} where
  pub digit-wraps : b < 256 → (r + 48) % 2 ^ 64 ≡ b → r < 2 ^ 64 → DigitIs b r
  digit-wraps l e f = (
    (λ t. let h = leb-true 48 b (and_left (leb 48 b) (leb b 57) t) in omega (arith, l, e, f, h)),
    (λ t.
        split (leb 48 b)
        (λ u. let h = leb-false b 57 (rw u at t) in omega (arith, l, e, f, h))
        (λ u. let h = leb-false 48 b u in omega (arith, l, e, f, h))),
  )

  module _ (h : DigitIs b r) where
    pub digit-yes : r ≤ 9 → (48 ≤ b) × (b ≤ 57) × (r ≡ b - 48)
    digit-yes l =
        split (is_digit b)
        (λ t. (leb-true 48 b (and_left (leb 48 b) (leb b 57) t), leb-true b 57 (and_right (leb 48 b) (leb b 57) t), h.0 t))
        (λ t. absurd (omega (arith, l, h.1 t)))

    pub digit-no : 9 < r → is_digit b ≡ false
    digit-no l =
        split (is_digit b)
        (λ t. absurd (omega (arith, l, h.0 t, leb-true b 57 (and_right (leb 48 b) (leb b 57) t))))
        (λ t. t)

-- a digit more
pub power-more : (v x i : ℕ) → v < 10 ^ i → x < 10 → v * 10 + x < 10 ^ (i + 1)
power-more v x i l h = rw (add-one i) (omega (arith, pow-suc 10 i))

pub power_below : (v i n : ℕ) → v < 10 ^ i → i ≤ n → v < 10 ^ n
power_below v i n l h = lt_of_lt_of_le l (pow-le-pow_right (lit< tt) h)

module _ (d : List ℕ) where
  pub decimal-none : decimal d 0 ≡ 0
  unfolding decimal
  decimal-none = refl

  pub decimal-more : (k : ℕ) → decimal d (k + 1) ≡ decimal d k * 10 + (get_or d k 0 - 48)
  unfolding decimal
  decimal-more k = rw (add-one k)

  -- digits more, taken together
  pub decimal-from : (i k : ℕ) → decimal d (i + k) ≡ decimal d i * 10 ^ k + decimal_from d i k
  unfolding decimal decimal_from
  decimal-from i zero = rw (add-zero i) (omega arith)
  decimal-from i (suc k) = rw (add-suc i k, pow-suc 10 k) (omega (arith, decimal-from i k))

  pub decimal-grows : (k n : ℕ) → k ≤ n → decimal d k ≤ decimal d n
  unfolding decimal
  decimal-grows k zero l = let e : k ≡ 0 = omega arith in rw e (omega arith)
  decimal-grows k (suc n) l =
      split (eqb k (suc n))
      (λ t. rw (eqb-true k (suc n) t) (omega arith))
      (λ t. omega (arith, decimal-grows k n (omega (arith, eqb-false k (suc n) t))))

  -- with a first digit above zero, k digits more are a power of ten
  decimal-power : (k : ℕ) → 48 < get_or d 0 0 → 10 ^ k ≤ decimal d (suc k)
  unfolding decimal
  decimal-power zero h = omega arith
  decimal-power (suc k) h = omega (arith, pow-suc 10 k, decimal-power k h)

  -- a byte more is a digit
  pub digits_more :
      (k : ℕ) →
      all_below (λ i. is_digit (get_or d i 0)) k ≡ true →
      48 ≤ get_or d k 0 →
      get_or d k 0 ≤ 57 →
      all_below (λ i. is_digit (get_or d i 0)) (k + 1) ≡ true
  digits_more k a h l = all_below-more (λ i. is_digit (get_or d i 0)) k a (rw (le-leb 48 (get_or d k 0) h, le-leb (get_or d k 0) 57 l))

  -- ---- what is refused

  numeral-malformed : is_numeral d ≡ false → None ≡ numeral_of d
  unfolding numeral_of
  numeral-malformed e = rw e

  pub numeral-empty : length d ≡ 0 → None ≡ numeral_of d
  unfolding is_numeral
  numeral-empty e = numeral-malformed (rw e)

  -- a zero before others
  pub numeral-zeros : get_or d 0 0 ≡ 48 → (length d ≡ 1 → ⊥) → None ≡ numeral_of d
  unfolding is_numeral
  numeral-zeros e n = numeral-malformed (rw (eq-eqb (get_or d 0 0) 48 e, ne_eqb (length d) 1 n, and-false))

  pub numeral-other : (k : ℕ) → k < length d → is_digit (get_or d k 0) ≡ false → None ≡ numeral_of d
  unfolding is_numeral
  numeral-other k l e = numeral-malformed (rw (all_below-fails (λ i. is_digit (get_or d i 0)) (length d) k l e, and-false))

  numeral-low : (k : ℕ) → k < length d → get_or d k 0 < 48 → None ≡ numeral_of d
  numeral-low k l h = numeral-other k l (rw (lt-leb 48 (get_or d k 0) h))

  -- too large already at the first k digits
  pub numeral-large : (k : ℕ) → k ≤ length d → 2 ^ 64 ≤ decimal d k → None ≡ numeral_of d
  unfolding numeral_of
  numeral-large k l h = rw (le-ltb (decimal d (length d)) (2 ^ 64) (le_trans h (decimal-grows k (length d) l)), and-false)

  -- more than twenty digits
  numeral-long : 20 < length d → 48 < get_or d 0 0 → None ≡ numeral_of d
  numeral-long l h = numeral-large 21 l (omega (arith, decimal-power 20 h))

  pub numeral-too-long : 20 < length d → None ≡ numeral_of d
  numeral-too-long h =
      split (leb 48 (get_or d 0 0))
      (λ q.
      split (eqb (get_or d 0 0) 48)
      (λ t. numeral-zeros (eqb-true (get_or d 0 0) 48 t) (λ n. omega arith))
      (λ t. numeral-long h (omega (arith, leb-true 48 (get_or d 0 0) q, eqb-false (get_or d 0 0) 48 t))))
      (λ q. numeral-low 0 (omega arith) (leb-false 48 (get_or d 0 0) q))

  -- the test of the first byte: it shows no digit, or a zero before others
  module _ {r : ℕ} (p : 0 < length d) (h : DigitIs (get_or d 0 0) r) where
    pub first-bad : (ltb 9 r || (eqb r 0 && ltb 1 (length d))) ≡ true → None ≡ numeral_of d
    first-bad e =
        split (ltb 9 r)
        (λ t. numeral-other 0 p (digit-no (get_or d 0 0) h (ltb-true 9 r t)))
        (λ t.
        let z = second-or (ltb 9 r) (eqb r 0 && ltb 1 (length d)) e t in
        let x = digit-yes (get_or d 0 0) h (ltb-false 9 r t) in
        let q = eqb-true r 0 (and_left (eqb r 0) (ltb 1 (length d)) z) in
        let l = ltb-true 1 (length d) (and_right (eqb r 0) (ltb 1 (length d)) z) in
        numeral-zeros (omega (arith, x, q)) (λ n. omega (arith, n, l)))

    pub first_good : (ltb 9 r || (eqb r 0 && ltb 1 (length d))) ≡ false → (r ≤ 9) × (get_or d 0 0 ≡ 48 → length d ≡ 1)
    first_good e =
        let n = none_or (ltb 9 r) (eqb r 0 && ltb 1 (length d)) e in
        let l = ltb-false 9 r n.0 in
        let x = digit-yes (get_or d 0 0) h l in
        (l, λ z. let q : r ≡ 0 = omega (arith, x.2, z) in omega (arith, p, ltb-false 1 (length d) (rw (eq-eqb r 0 q) at n.1)))

  -- ---- what is read

  pub well_formed-all :
      (0 < length d) →
      (get_or d 0 0 ≡ 48 → length d ≡ 1) →
      all_below (λ i. is_digit (get_or d i 0)) (length d) ≡ true →
      is_numeral d ≡ true
  unfolding is_numeral
  well_formed-all p z a =
      split (eqb (get_or d 0 0) 48)
      (λ t. rw (lt-ltb 0 (length d) p, t, eq-eqb (length d) 1 (z (eqb-true (get_or d 0 0) 48 t)), a))
      (λ t. rw (lt-ltb 0 (length d) p, t, a))

  pub numeral-read : is_numeral d ≡ true → decimal d (length d) < 2 ^ 64 → Some (decimal d (length d)) ≡ numeral_of d
  unfolding numeral_of
  numeral-read e l = rw (e, lt-ltb (decimal d (length d)) (2 ^ 64) l)

  -- each byte was a digit, and the first no zero before others
  pub numeral-whole :
      (i v : ℕ) →
      i ≡ length d →
      v ≡ decimal d i →
      all_below (λ k. is_digit (get_or d k 0)) i ≡ true →
      (length d ≡ 0 → ⊥) →
      (get_or d 0 0 ≡ 48 → length d ≡ 1) →
      v < 2 ^ 64 →
      Some v ≡ numeral_of d
  numeral-whole i v e q a n z l =
      let m : v ≡ decimal d (length d) = q ∙ ap (decimal d) e in
      let w : is_numeral d ≡ true = well_formed-all (omega arith) z (rw (← e) a) in
      ap Some m ∙ numeral-read w (rw (← m) l)
