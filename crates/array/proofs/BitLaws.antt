-- Laws of bits.
use mathlib.Core.Path.{◌≡◌, refl, sym, ap, ◌∙◌}
use mathlib.Core.Bool.{Bool, true, false, not, cond, ◌&&◌, ◌||◌}
use Prim.Native.Nat.{ℕ, zero, suc, ◌+◌, ◌-◌, ◌*◌, ◌/◌, ◌%◌, ◌^◌, ◌≤◌, ◌<◌}
use native.Mathlib.Omega.{arith}
use native.Mathlib.Nat.{pow-succ', pow-zero, one-le-pow, two-pow-succ, zero-div, div-one, div-div-eq-div-mul, div-lt_iff_lt-mul}
use lib.Dec.{eqb, ltb, lit<, leb-suc-suc}
use lib.Bits.{bit_and, bit_or, and_shr, or_shr, and_mod, or_mod}
use lib.Count.{ones, ones_step, ones-ones}
use borrow.Author.Tests.{eq-eqb, ne_eqb, eqb-false, lt-ltb, le-ltb, ltb-true, ltb-false}
use Rattle.array.specs.Bit.{bit}
use Rattle.array.specs.Index.{how_many}
use Rattle.array.proofs.TestLaws.{split}
use Rattle.array.proofs.IndexLaws.{how_many-none, how_many-first, how_many-same}

-- one binary digit
digit_and : (x y : ℕ) → x < 2 → y < 2 → eqb (bit_and x y) 1 ≡ (eqb x 1 && eqb y 1)
digit_and zero zero p q = refl
digit_and zero (suc zero) p q = refl
digit_and (suc zero) zero p q = refl
digit_and (suc zero) (suc zero) p q = refl
digit_and (suc (suc x)) y p q = absurd (omega arith)
digit_and zero (suc (suc y)) p q = absurd (omega arith)
digit_and (suc zero) (suc (suc y)) p q = absurd (omega arith)

digit_or : (x y : ℕ) → x < 2 → y < 2 → eqb (bit_or x y) 1 ≡ (eqb x 1 || eqb y 1)
digit_or zero zero p q = refl
digit_or zero (suc zero) p q = refl
digit_or (suc zero) zero p q = refl
digit_or (suc zero) (suc zero) p q = refl
digit_or (suc (suc x)) y p q = absurd (omega arith)
digit_or zero (suc (suc y)) p q = absurd (omega arith)
digit_or (suc zero) (suc (suc y)) p q = absurd (omega arith)

pub bit-and : (a b i : ℕ) → bit (bit_and a b) i ≡ (bit a i && bit b i)
unfolding bit
bit-and a b i =
    ap (λ (x : ℕ). eqb (x % 2) 1) (and_shr a b i)
    ∙ ap (λ (x : ℕ). eqb x 1) (and_mod (a / 2 ^ i) (b / 2 ^ i) 1)
    ∙ digit_and (a / 2 ^ i % 2) (b / 2 ^ i % 2) (omega arith) (omega arith)

pub bit-or : (a b i : ℕ) → bit (bit_or a b) i ≡ (bit a i || bit b i)
unfolding bit
bit-or a b i =
    ap (λ (x : ℕ). eqb (x % 2) 1) (or_shr a b i)
    ∙ ap (λ (x : ℕ). eqb x 1) (or_mod (a / 2 ^ i) (b / 2 ^ i) 1)
    ∙ digit_or (a / 2 ^ i % 2) (b / 2 ^ i % 2) (omega arith) (omega arith)

-- ---- a bit as a digit

pub bit-set : (w i : ℕ) → (w / 2 ^ i % 2 ≡ 0 → ⊥) → bit w i ≡ true
unfolding bit
bit-set w i h = eq-eqb (w / 2 ^ i % 2) 1 (omega arith)

pub bit-clear : (w i : ℕ) → w / 2 ^ i % 2 ≡ 0 → bit w i ≡ false
unfolding bit
bit-clear w i h = ne_eqb (w / 2 ^ i % 2) 1 (λ e. omega arith)

pub bit-none : (i : ℕ) → bit 0 i ≡ false
bit-none i = bit-clear 0 i (rw zero-div)

bit-first : (w : ℕ) → bit w 0 ≡ eqb (w % 2) 1
unfolding bit
bit-first w = rw (pow-zero, div-one)

bit-next : (w i : ℕ) → bit w (suc i) ≡ bit (w / 2) i
unfolding bit
bit-next w i = ap (λ (x : ℕ). eqb (x % 2) 1) (ap (λ (d : ℕ). w / d) (pow-succ' 2 i) ∙ sym (div-div-eq-div-mul w 2 (2 ^ i)))

-- the word of the bits below n
pub bit-ones : (n i : ℕ) → bit (2 ^ n - 1) i ≡ ltb i n
bit-ones zero i = bit-none i ∙ sym (le-ltb i 0 (omega arith))
bit-ones (suc n) zero =
    let one : 1 ≤ 2 ^ n = one-le-pow n 2 (lit< tt) in
    bit-first (2 ^ suc n - 1)
    ∙ eq-eqb ((2 ^ suc n - 1) % 2) 1 (omega (arith, two-pow-succ n))
    ∙ sym (lt-ltb 0 (suc n) (omega arith))
bit-ones (suc n) (suc i) =
    let one : 1 ≤ 2 ^ n = one-le-pow n 2 (lit< tt) in
    let half : (2 ^ suc n - 1) / 2 ≡ 2 ^ n - 1 = omega (arith, two-pow-succ n) in
    bit-next (2 ^ suc n - 1) i ∙ ap (λ (w : ℕ). bit w i) half ∙ bit-ones n i ∙ sym (leb-suc-suc (suc i) n)

-- ---- a mask of n bits

-- those that are not set, and those that are
pub ones-clear : (n w : ℕ) → w < 2 ^ n → how_many (λ i. not (bit w i)) n + ones w ≡ n
ones-clear zero w l =
    let z : w ≡ 0 = omega (arith, rw pow-zero at l) in
    omega (arith, how_many-none (λ i. not (bit w i)), ap ones z, ones-ones 0)
ones-clear (suc n) w l =
    let rest : how_many (λ i. not (bit (w / 2) i)) n + ones (w / 2) ≡ n = ones-clear n (w / 2) (omega (arith, two-pow-succ n)) in
    let later : how_many (λ i. not (bit w (suc i))) n ≡ how_many (λ i. not (bit (w / 2) i)) n =
    how_many-same (λ i. not (bit w (suc i))) (λ i. not (bit (w / 2) i)) n (λ i k. ap not (bit-next w i)) in
    let own : cond (not (bit w 0)) 1 0 + w % 2 ≡ 1 = ap (λ (b : Bool). cond (not b) 1 0 + w % 2) (bit-first w) ∙ digit (w % 2) (omega arith) in
    omega (arith, how_many-first (λ i. not (bit w i)) n, later, own, rest, ones_step w)
  where
    digit : (x : ℕ) → x < 2 → cond (not (eqb x 1)) 1 0 + x ≡ 1
    digit zero k = refl
    digit (suc zero) k = refl
    digit (suc (suc x)) k = absurd (omega arith)

-- with none of them set it is 0
pub mask-none : (nodes mask : ℕ) → mask < 2 ^ nodes → ((i : ℕ) → i < nodes → bit mask i ≡ false) → mask ≡ 0
mask-none zero mask l none = omega (arith, rw pow-zero at l)
mask-none (suc n) mask l none =
    let even : mask % 2 ≡ 1 → ⊥ = eqb-false (mask % 2) 1 (sym (bit-first mask) ∙ none 0 (omega arith)) in
    let rest : mask / 2 ≡ 0 =
    mask-none n (mask / 2) (omega (arith, two-pow-succ n)) (λ i k. sym (bit-next mask i) ∙ none (suc i) (omega arith)) in
    omega (arith, even)

pub mask_fits : (mask nodes : ℕ) → eqb (mask / 2 ^ nodes) 0 ≡ ltb mask (2 ^ nodes)
mask_fits mask nodes =
    let pos : 0 < 2 ^ nodes = one-le-pow nodes 2 (lit< tt) in
    split (ltb mask (2 ^ nodes))
    (λ t. rw t (eq-eqb (mask / 2 ^ nodes) 0 (let h : mask / 2 ^ nodes < 1 = (div-lt_iff_lt-mul pos).1 (omega (arith, ltb-true mask (2 ^ nodes) t)) in omega arith)))
    (λ t. rw t (ne_eqb (mask / 2 ^ nodes) 0 (λ z. let h : mask < 1 * 2 ^ nodes = (div-lt_iff_lt-mul pos).0 (omega arith) in absurd (omega (arith, ltb-false mask (2 ^ nodes) t)))))
