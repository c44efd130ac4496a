-- Digits taken several at a time: what the answer about a part says of the whole.
use Rattle.std.specs.Prelude.{Option, None, Some}
use mathlib.Core.Path.{◌≡◌, refl, sym, ap, ◌∙◌}
use mathlib.Core.Bool.{Bool, true, false, cond, ◌&&◌}
use mathlib.Core.List.{List}
use Prim.Native.Nat.{ℕ, zero, suc, ◌+◌, ◌-◌, ◌*◌, ◌^◌, ◌<◌, ◌≤◌}
use native.Mathlib.Omega.{arith}
use native.Mathlib.Nat.{add-zero, add-suc, pow-suc}
use lib.Dec.{leb, ltb, eqb, lit<}
use lib.ListN.{length, get_or}
use borrow.Author.Tests.{eqb-true, eqb-false, leb-true, ltb-true, ltb-false}
use Rattle.array.specs.Index.{all_below}
use Rattle.array.proofs.TestLaws.{split, and_left, and_right, and_both}
use Rattle.array.proofs.IndexLaws.{all_below-at, all_below-not}
use Rattle.numeral.specs.Numeral.{is_digit, decimal, numeral_of}
use Rattle.numeral.specs.Code.{decimal_from}
use Rattle.numeral.proofs.NumeralLaws.{decimal-from, numeral-zeros, numeral-other}

-- what the answer about a part tells
part-some : (t : Bool) (v w : ℕ) → Some v ≡ cond t (Some w) None → (t ≡ true) × (v ≡ w)
part-some true v w e = (refl, cc)
part-some false v w e = absurd (let z : ◌≡◌ {A = ℕ} 0 1 = cc in omega arith)

part_none : (t : Bool) (w : ℕ) → None ≡ cond t (Some w) None → t ≡ false
part_none true w e = absurd (let z : ◌≡◌ {A = ℕ} 0 1 = cc in omega arith)
part_none false w e = refl

module _ (d : List ℕ) (i m : ℕ) {r : Option ℕ} (e : r ≡ cond (all_below (λ k. is_digit (get_or d (i + k) 0)) m) (Some (decimal_from d i m)) None) where
  pub part-value : {v : ℕ} → r ≡ Some v → (all_below (λ k. is_digit (get_or d (i + k) 0)) m ≡ true) × (v ≡ decimal_from d i m)
  part-value {v} t = part-some (all_below (λ k. is_digit (get_or d (i + k) 0)) m) v (decimal_from d i m) (sym t ∙ e)

  pub part-none : r ≡ None → i + m ≤ length d → None ≡ numeral_of d
  part-none t l =
      let n = all_below-not (λ k. is_digit (get_or d (i + k) 0)) m (part_none (all_below (λ k. is_digit (get_or d (i + k) 0)) m) (decimal_from d i m) (sym t ∙ e)) in
      numeral-other d (i + n.0) (omega (arith, n.1, l)) n.2

module _ (d : List ℕ) (i : ℕ) where
  -- the digits of a part behind others
  pub digits-join : (m : ℕ) → all_below (λ k. is_digit (get_or d k 0)) i ≡ true → all_below (λ k. is_digit (get_or d (i + k) 0)) m ≡ true → all_below (λ k. is_digit (get_or d k 0)) (i + m) ≡ true
  unfolding all_below
  digits-join zero a b = rw (add-zero i) a
  digits-join (suc m) a b = rw (add-suc i m) (and_both (digits-join m a (and_left _ _ b)) (and_right (all_below (λ k. is_digit (get_or d (i + k) 0)) m) _ b))

  pub part-bound : (m : ℕ) → all_below (λ k. is_digit (get_or d (i + k) 0)) m ≡ true → decimal_from d i m < 10 ^ m
  unfolding all_below decimal_from
  part-bound zero a = lit< tt
  part-bound (suc m) a =
      let b = get_or d (i + m) 0 in
      let t = and_right (all_below (λ k. is_digit (get_or d (i + k) 0)) m) (is_digit b) a in
      rw pow-suc (omega (arith, part-bound m (and_left _ _ a), leb-true b 57 (and_right (leb 48 b) (leb b 57) t)))

  -- the first digit of a part, by its number
  part-first :
      (k : ℕ) →
      all_below (λ k. is_digit (get_or d (i + k) 0)) (suc k) ≡ true →
      ((get_or d i 0 - 48) * 10 ^ k ≤ decimal_from d i (suc k)) × (decimal_from d i (suc k) < (get_or d i 0 - 48 + 1) * 10 ^ k)
  unfolding all_below decimal_from
  part-first zero a = rw (add-zero i) (omega arith, omega arith)
  part-first (suc k) a =
      let b = get_or d (i + suc k) 0 in
      let t = and_right (all_below (λ k. is_digit (get_or d (i + k) 0)) (suc k)) (is_digit b) a in
      let n = part-first k (and_left _ _ a) in
      let l = leb-true b 57 (and_right (leb 48 b) (leb b 57) t) in
      rw pow-suc (omega (arith, n.0), omega (arith, n.1, l))

-- eight digits more
pub power-eight : (v e i : ℕ) → v < 10 ^ i → e < 10 ^ 8 → v * 100000000 + e < 10 ^ (i + 8)
power-eight v e i l h =
    let q : i + 8 ≡ suc (suc (suc (suc (suc (suc (suc (suc i))))))) = omega arith in
    rw (q, pow-suc, pow-suc, pow-suc, pow-suc, pow-suc, pow-suc, pow-suc, pow-suc) (omega (arith, l, h))

pub decimal-eight : (d : List ℕ) (i v e : ℕ) → v ≡ decimal d i → e ≡ decimal_from d i 8 → v * 100000000 + e ≡ decimal d (i + 8)
decimal-eight d i v e p q = omega (arith, p, q, decimal-from d i 8)

-- the test of eight digits, whether they are the first and begin with a zero
module _ (d : List ℕ) (i e : ℕ) (a : all_below (λ k. is_digit (get_or d (i + k) 0)) 8 ≡ true) (q : e ≡ decimal_from d i 8) where
  pub eight-zeros : 8 ≤ length d → (eqb i 0 && ltb e 10000000) ≡ true → None ≡ numeral_of d
  eight-zeros l t =
      let z = eqb-true i 0 (and_left (eqb i 0) (ltb e 10000000) t) in
      let h = ltb-true e 10000000 (and_right (eqb i 0) (ltb e 10000000) t) in
      let b = get_or d i 0 in
      let c : 48 ≤ b = rw (← add-zero i) (leb-true 48 (get_or d (i + 0) 0) (and_left (leb 48 (get_or d (i + 0) 0)) (leb (get_or d (i + 0) 0) 57) (all_below-at (λ k. is_digit (get_or d (i + k) 0)) 8 0 (lit< tt) a))) in
      let w : b ≡ 48 = omega (arith, c, q, h, (part-first d i 7 a).0) in
      numeral-zeros d (ap (λ (k : ℕ). get_or d k 0) (sym z) ∙ w) (λ n. omega (arith, n, l))

  pub eight-first : (eqb i 0 && ltb e 10000000) ≡ false → (0 < i → get_or d 0 0 ≡ 48 → ⊥) → get_or d 0 0 ≡ 48 → ⊥
  eight-first t f z =
      split (eqb i 0)
      (λ u.
      let w = eqb-true i 0 u in
      let h = ltb-false e 10000000 (rw u at t) in
      let y : get_or d i 0 ≡ 48 = ap (λ (k : ℕ). get_or d k 0) w ∙ z in
      omega (arith, y, q, h, (part-first d i 7 a).1))
      (λ u. f (omega (arith, eqb-false i 0 u)) z)
