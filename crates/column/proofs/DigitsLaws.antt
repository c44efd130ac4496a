-- Laws of digits with nothing before them: their form as facts, and one digit more.
use Rattle.std.specs.Prelude.{None, Some}
use Rattle.std.proofs.Common.{◌≡◌, ℕ, zero, suc, ◌+◌, ◌-◌, ◌*◌, ◌/◌, ◌%◌, ◌^◌, ◌<◌, ◌≤◌, Bool, true, false, cond, not, ◌&&◌, ◌||◌, eqb, ltb, leb, List, [], ◌∷◌, ◌++◌, length, get_or, sym, refl, ap, ◌∙◌, not-suc-le-zero, pow-suc, zero-add, add-one, arith, lit<, length-append, ltb-true, eq-eqb, eqb-true, le-leb, leb-true}
use lib.ListN.{get_or-append}
use lib.Seq.{get_or-append_seam, get_or_at}
use borrow.Author.Tests.{eqb-false}
use Rattle.array.specs.Index.{all_below}
use Rattle.array.proofs.TestLaws.{split, clash, and_left, and_right, and_both}
use Rattle.array.proofs.IndexLaws.{all_below-at, all_below-all}
use Rattle.numeral.specs.Numeral.{is_digit, decimal, is_numeral, numeral_of}
use Rattle.numeral.proofs.NumeralLaws.{well_formed-all}

abbrev pub Digit : ℕ → Type 0
Digit b = (48 ≤ b) × (b ≤ 57)

-- `is_numeral`, as facts
pub record Digits (d : List ℕ) : Type 0 where
  pub full : 0 < length d
  pub head : get_or d 0 0 ≡ 48 → length d ≡ 1
  pub each : (k : ℕ) → k < length d → Digit (get_or d k 0)

digit-of-test : (b : ℕ) → is_digit b ≡ true → Digit b
digit-of-test b e =
    (leb-true 48 b (and_left (leb 48 b) (leb b 57) e), leb-true b 57 (and_right (leb 48 b) (leb b 57) e))

lone : (a b : Bool) → (not a || b) ≡ true → a ≡ true → b ≡ true
lone true b e t = e
lone false b e t = absurd (clash t refl)

module _ (d : List ℕ) where
  pub digits-of-well_formed : is_numeral d ≡ true → Digits d
  unfolding is_numeral
  digits-of-well_formed e =
      let t₁ = ltb 0 (length d) in
      let t₂ = not (eqb (get_or d 0 0) 48) || eqb (length d) 1 in
      let t₃ = all_below (λ i. is_digit (get_or d i 0)) (length d) in
      let l = and_left (t₁ && t₂) t₃ e in
      record {
        full = ltb-true 0 (length d) (and_left t₁ t₂ l);
        head = λ z. eqb-true (length d) 1 (lone (eqb (get_or d 0 0) 48) (eqb (length d) 1) (and_right t₁ t₂ l) (eq-eqb (get_or d 0 0) 48 z));
        each = λ k h. digit-of-test (get_or d k 0) (all_below-at (λ i. is_digit (get_or d i 0)) (length d) k h (and_right (t₁ && t₂) t₃ e));
      }

  pub well_formed-of-digits : Digits d → is_numeral d ≡ true
  well_formed-of-digits h =
      well_formed-all d h.full h.head
      (all_below-all (λ i. is_digit (get_or d i 0)) (length d) (λ k l. and_both (le-leb 48 (get_or d k 0) (h.each k l).0) (le-leb (get_or d k 0) 57 (h.each k l).1)))

-- what a numeral that is read says of its digits
pub numeral-parts : (d : List ℕ) (v : ℕ) → numeral_of d ≡ Some v → Digits d × (decimal d (length d) ≡ v) × (v < 2 ^ 64)
unfolding numeral_of
numeral-parts d v e = go (is_numeral d && ltb (decimal d (length d)) (2 ^ 64)) refl e
  where
    go : (t : Bool) → (is_numeral d && ltb (decimal d (length d)) (2 ^ 64)) ≡ t → cond t (Some (decimal d (length d))) None ≡ Some v
        → Digits d × (decimal d (length d) ≡ v) × (v < 2 ^ 64)
    go true t q =
        let x : decimal d (length d) ≡ v = cc in
        let n = ltb-true (decimal d (length d)) (2 ^ 64) (and_right (is_numeral d) (ltb (decimal d (length d)) (2 ^ 64)) t) in
        (digits-of-well_formed d (and_left _ _ t), x, rw (← x) n)
    go false t q = absurd (let z : ◌≡◌ {A = ℕ} 0 1 = cc in omega arith)

-- ---- the number

module _ (d : List ℕ) where
  pub decimal-one : decimal d 1 ≡ get_or d 0 0 - 48
  unfolding decimal
  decimal-one = zero-add (get_or d 0 0 - 48)

  -- the last digit of a number, and the number without it
  pub decimal-last : (k : ℕ) → Digit (get_or d k 0) → (decimal d (suc k) / 10 ≡ decimal d k) × (48 + decimal d (suc k) % 10 ≡ get_or d k 0)
  unfolding decimal
  decimal-last k g = (omega arith, omega arith)

  pub decimal-bound : ((k : ℕ) → k < length d → Digit (get_or d k 0)) → (n : ℕ) → n ≤ length d → decimal d n < 10 ^ n
  unfolding decimal
  decimal-bound f zero l = lit< tt
  decimal-bound f (suc n) l = rw pow-suc (omega (arith, decimal-bound f n (omega arith), (f n l).1))

  -- a number above zero begins with no zero
  pub digits-first : Digits d → 0 < decimal d (length d) → get_or d 0 0 ≡ 48 → ⊥
  digits-first h p z =
      let e : decimal d (length d) ≡ get_or d 0 0 - 48 = ap (decimal d) (h.head z) ∙ decimal-one in
      omega arith

-- ---- one digit more

module _ (d e : List ℕ) where
  pub decimal-append : (k : ℕ) → k ≤ length d → decimal (d ++ e) k ≡ decimal d k
  unfolding decimal
  decimal-append zero l = refl
  decimal-append (suc k) l = rw (decimal-append k (omega arith), get_or-append d e 0 k l)

module _ (d : List ℕ) (x : ℕ) where
  length-snoc : length (d ++ (x ∷ [])) ≡ suc (length d)
  length-snoc = length-append d (x ∷ []) ∙ add-one (length d)

  each_snoc :
      ((k : ℕ) → k < length d → Digit (get_or d k 0)) →
      Digit x →
      (k : ℕ) →
      k < length (d ++ (x ∷ [])) →
      Digit (get_or (d ++ (x ∷ [])) k 0)
  each_snoc f g k l =
      split (eqb k (length d))
      (λ t. rw (get_or_at d x [] 0 k (sym (eqb-true k (length d) t))) g)
      (λ t. let h : k < length d = omega (arith, length-snoc, eqb-false k (length d) t) in rw (get_or-append d (x ∷ []) 0 k h) (f k h))

  pub decimal-snoc : decimal (d ++ (x ∷ [])) (length (d ++ (x ∷ []))) ≡ decimal d (length d) * 10 + (x - 48)
  unfolding decimal
  decimal-snoc = rw (length-snoc, decimal-append d (x ∷ []) (length d) (omega arith), get_or-append_seam d x [] 0)

  pub digits-snoc : Digits d → 0 < decimal d (length d) → Digit x → Digits (d ++ (x ∷ []))
  digits-snoc h p g =
      record {
        full = omega (arith, length-snoc);
        head = λ z. absurd (digits-first d h p (sym (get_or-append d (x ∷ []) 0 0 h.full) ∙ z));
        each = each_snoc h.each g;
      }

pub digits-lone : (x : ℕ) → Digit x → Digits (x ∷ [])
digits-lone x g = record { full = omega arith; head = λ z. refl; each = each_snoc [] x (λ k l. absurd (not-suc-le-zero l)) g }
