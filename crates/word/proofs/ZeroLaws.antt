-- The zeros below a number's lowest set bit, counted by bytes.
use mathlib.Core.Path.{◌≡◌, refl, sym, ap, ◌∙◌}
use Prim.Native.Nat.{ℕ, zero, suc, ◌+◌, ◌*◌, ◌/◌, ◌%◌, ◌^◌, ◌<◌}
use native.Mathlib.Omega.{arith}
use native.Mathlib.Nat.{add-zero, add-suc, pow-suc, div-one, mul_comm, div-div-eq-div-mul}
use lib.Dec.{lit<, eqb}
use lib.Arith.{mod-mul}
use lib.Pow.{pow_pos}
use lib.Count.{count_trailing_zeros}
use borrow.Author.Tests.{eqb-true, eqb-false}
use Rattle.array.proofs.TestLaws.{split}
use Rattle.word.specs.Word.{low_run}

module _ (k n : ℕ) where
  even-zeros : n % 2 ≡ 0 → count_trailing_zeros (suc k) n ≡ suc (count_trailing_zeros k (n / 2))
  unfolding count_trailing_zeros
  even-zeros e = rw e

  odd-zeros : n % 2 ≡ 1 → count_trailing_zeros (suc k) n ≡ 0
  unfolding count_trailing_zeros
  odd-zeros e = rw e

bits-split : (j n : ℕ) → n % 2 ^ suc j ≡ (n / 2 % 2 ^ j) * 2 + n % 2
bits-split j n = rw (pow-suc 2 j) (mod-mul n (pow_pos j) (lit< tt))

-- j zero bits below the rest
zeros-shift : (k j n : ℕ) → n % 2 ^ j ≡ 0 → count_trailing_zeros (k + j) n ≡ count_trailing_zeros k (n / 2 ^ j) + j
zeros-shift k zero n e = rw (div-one n, add-zero, add-zero)
zeros-shift k (suc j) n e =
    let h = bits-split j n in
    rw (add-suc, add-suc)
    (even-zeros (k + j) n (omega (arith, h))
    ∙ ap suc (zeros-shift k j (n / 2) (omega (arith, h)) ∙ ap (λ (x : ℕ). count_trailing_zeros k x + j) (div-div-eq-div-mul n 2 (2 ^ j) ∙ ap (λ (x : ℕ). n / x) (mul_comm 2 (2 ^ j) ∙ sym (pow-suc 2 j)))))

-- a set bit among the j lowest
zeros-below : (k j n : ℕ) → (n % 2 ^ j ≡ 0 → ⊥) → count_trailing_zeros (k + j) n < j
zeros-below k zero n e = absurd (e (omega arith))
zeros-below k (suc j) n e =
    let h = bits-split j n in
    rw (add-suc)
    (split (eqb (n % 2) 0)
    (λ t. let z = eqb-true (n % 2) 0 t in rw (even-zeros (k + j) n z) (omega (arith, zeros-below k j (n / 2) (λ q. e (omega (arith, h))))))
    (λ t. rw (odd-zeros (k + j) n (omega (arith, eqb-false (n % 2) 0 t))) (omega arith)))

-- eight to a byte
pub zeros-of-trailing : (m n : ℕ) → count_trailing_zeros (8 * m) n / 8 ≡ low_run 0 m n
unfolding low_run count_trailing_zeros
zeros-of-trailing zero n = refl
zeros-of-trailing (suc m) n =
    let d : 8 * suc m ≡ 8 * m + 8 = omega arith in
    rw d
    (split (eqb (n % 256) 0)
    (λ t. rw t (omega (arith, zeros-of-trailing m (n / 256), zeros-shift (8 * m) 8 n (eqb-true (n % 256) 0 t))))
    (λ t. rw t (omega (arith, zeros-below (8 * m) 8 n (eqb-false (n % 256) 0 t)))))
