-- Laws of the bits of a word: those of a part of it, and the word that its bits make.
use mathlib.Core.Path.{◌≡◌, refl, sym, ap, ◌∙◌}
use mathlib.Core.Bool.{Bool, true, false, cond}
use Prim.Native.Nat.{ℕ, zero, suc, ◌+◌, ◌-◌, ◌*◌, ◌/◌, ◌%◌, ◌^◌, ◌<◌}
use native.Mathlib.Omega.{arith}
use native.Mathlib.Nat.{two-pow-succ, one-mul, mod-one, mod-eq_of_lt, not-suc-le-zero}
use native.Mathlib.Numerals.{add-one}
use lib.Pow.{pow_mono, shl_exact, shr-shr, high, low, mod-pow-add, field, mod-mod-pow}
use lib.Dec.{eqb, lit<}
use borrow.Author.Tests.{eqb-true, eqb-false}
use Rattle.array.specs.Bit.{bit}
use Rattle.array.proofs.TestLaws.{split}
use Rattle.plan_words.specs.Words.{number_of_bits}

-- ---- a part of a word

bit_below : (w n i : ℕ) → i < n → bit (w % 2 ^ n) i ≡ bit w i
unfolding bit
bit_below w n i l =
    let e : n ≡ n - suc i + 1 + i = omega arith in
    rw e (ap (λ (x : ℕ). eqb (x % 2) 1) (field w (n - suc i + 1) i) ∙ ap (λ (x : ℕ). eqb x 1) (mod-mod-pow (w / 2 ^ i) (n - suc i) 1))

-- one of four bits from a place on
pub bit-of-four : (w c i : ℕ) → i < 4 → bit (w / 2 ^ c % 16) i ≡ bit w (c + i)
unfolding bit
bit-of-four w c i l = bit_below (w / 2 ^ c) 4 i l ∙ ap (λ (x : ℕ). eqb (x % 2) 1) (shr-shr w c i)

-- ---- the number of some bits

pub number_of_bits-small : (q : ℕ → Bool) (n : ℕ) → number_of_bits q n < 2 ^ n
unfolding number_of_bits
number_of_bits-small q zero = lit< tt
number_of_bits-small q (suc n) =
    let small = number_of_bits-small q n in
    split (q n) (λ t. rw (t, two-pow-succ n) (omega arith)) (λ t. rw (t, two-pow-succ n) (omega arith))

pub number_of_bits-none : (q : ℕ → Bool) → number_of_bits q 0 ≡ 0
unfolding number_of_bits
number_of_bits-none q = refl

-- one bit more, as the code makes it
shifted_one : (n : ℕ) → n < 64 → 1 * 2 ^ n % 2 ^ 64 ≡ 2 ^ n
shifted_one n l = shl_exact 1 n 64 (lit< tt) (omega arith) ∙ one-mul (2 ^ n)

module _ (q : ℕ → Bool) (n : ℕ) (l : n < 64) {w : ℕ} (e : w ≡ number_of_bits q n) where
  pub bit-fits : w + 1 * 2 ^ n % 2 ^ 64 < 2 ^ 64
  bit-fits = rw (e, shifted_one n l) (omega (arith, number_of_bits-small q n, two-pow-succ n, pow_mono l))

  pub number_of_bits-hit : q n ≡ true → w + 1 * 2 ^ n % 2 ^ 64 ≡ number_of_bits q (n + 1)
  unfolding number_of_bits
  number_of_bits-hit h = rw (shifted_one n l, add-one n, h, e)

  pub number_of_bits-miss : q n ≡ false → w ≡ number_of_bits q (n + 1)
  unfolding number_of_bits
  number_of_bits-miss h = rw (add-one n, h, e) (omega arith)

pub number_of_bits-same : (q r : ℕ → Bool) (n : ℕ) → ((i : ℕ) → i < n → q i ≡ r i) → number_of_bits q n ≡ number_of_bits r n
unfolding number_of_bits
number_of_bits-same q r zero e = refl
number_of_bits-same q r (suc n) e = rw (number_of_bits-same q r n (λ i l. e i (omega arith)), e n (omega arith))

-- ---- a word is the number of its bits

-- a bit as a digit in front of others
digit : (b : Bool) (d r : ℕ) → r + cond b d 0 ≡ cond b 1 0 * d + r
digit true d r = omega arith
digit false d r = omega arith

bit-digit : (x : ℕ) → x < 2 → cond (eqb x 1) 1 0 ≡ x
bit-digit zero l = refl
bit-digit (suc zero) l = refl
bit-digit (suc (suc x)) l = absurd (omega arith)

number_of_bits-of-bits : (w n : ℕ) → number_of_bits (bit w) n ≡ w % 2 ^ n
unfolding number_of_bits bit
number_of_bits-of-bits w zero = sym (mod-one w)
number_of_bits-of-bits w (suc n) =
    let e : suc n ≡ 1 + n = omega arith in
    rw (number_of_bits-of-bits w n, digit (eqb (w / 2 ^ n % 2) 1) (2 ^ n) (w % 2 ^ n), bit-digit (w / 2 ^ n % 2) (omega arith), e) (sym (mod-pow-add w 1 n))

pub word-of-bits : (w n : ℕ) → w < 2 ^ n → number_of_bits (bit w) n ≡ w
word-of-bits w n l = number_of_bits-of-bits w n ∙ mod-eq_of_lt l

-- ---- and its bits are those of which it is the number

digit-bit : (b : Bool) → eqb (cond b 1 0 % 2) 1 ≡ b
digit-bit true = refl
digit-bit false = refl

pub bits-of-word : (q : ℕ → Bool) (n i : ℕ) → i < n → bit (number_of_bits q n) i ≡ q i
unfolding number_of_bits bit
bits-of-word q zero i l = absurd (not-suc-le-zero l)
bits-of-word q (suc n) i l =
    let small = number_of_bits-small q n in
    rw (digit (q n) (2 ^ n) (number_of_bits q n))
    (split (eqb i n)
    (λ t. rw (eqb-true i n t, high (cond (q n) 1 0) n small) (digit-bit (q n)))
    (λ t.
    let m : i < n = omega (arith, eqb-false i n t) in
    sym (bit_below (cond (q n) 1 0 * 2 ^ n + number_of_bits q n) n i m) ∙ ap (λ (x : ℕ). bit x i) (low (cond (q n) 1 0) n small) ∙ bits-of-word q n i m))
