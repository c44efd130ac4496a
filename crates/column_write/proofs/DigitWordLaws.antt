-- The digits of two numbers below 10^4, found in all fields of a word at once.
use mathlib.Core.Path.{◌≡◌, sym, ap, ◌∙◌}
use mathlib.Core.List.{◌++◌}
use Prim.Native.Nat.{ℕ, ◌+◌, ◌-◌, ◌*◌, ◌/◌, ◌%◌, ◌^◌, ◌<◌, ◌≤◌}
use native.Mathlib.Nat.{mod-lt}
use native.Mathlib.Omega.{arith}
use lib.Bits.{bit_and, and_mask}
use lib.Pow.{split, pow_pos, mod-mod-pow}
use Rattle.word.specs.Word.{word_of}
use Rattle.word.proofs.FieldLaws.{mask_step}
use Rattle.column_write.specs.Code.{digit_list}

-- ---- masks

-- the lowest field has j + k bits, of which the mask keeps k
field-mask : (j k m x : ℕ) → bit_and x (m * 2 ^ (j + k) + (2 ^ k - 1)) ≡ bit_and (x / 2 ^ (j + k)) m * 2 ^ (j + k) + x % 2 ^ k
field-mask j k m x =
    let n = j + k in
    mask_step n k x (x / 2 ^ n) (x % 2 ^ n) m (sym (split x n)) (mod-lt x (pow_pos n)) (omega arith)
    ∙ ap (λ (y : ℕ). bit_and (x / 2 ^ n) m * 2 ^ n + y) (mod-mod-pow x j k)

-- two fields of 32 bits, of which 7 are kept
mask-two : (x : ℕ) → bit_and x 545460846719 ≡ x / 2 ^ 32 % 2 ^ 7 * 2 ^ 32 + x % 2 ^ 7
mask-two x = field-mask 25 7 127 x ∙ ap (λ (y : ℕ). y * 2 ^ 32 + x % 2 ^ 7) (and_mask (x / 2 ^ 32) 7)

-- four fields of 16 bits, of which 4 are kept
mask-four :
    (x : ℕ) →
    bit_and x 4222189076152335
    ≡ ((x / 2 ^ 16 / 2 ^ 16 / 2 ^ 16 % 2 ^ 4 * 2 ^ 16 + x / 2 ^ 16 / 2 ^ 16 % 2 ^ 4) * 2 ^ 16 + x / 2 ^ 16 % 2 ^ 4) * 2 ^ 16 + x % 2 ^ 4
mask-four x =
    let y = x / 2 ^ 16 in
    let z = y / 2 ^ 16 in
    field-mask 12 4 64425492495 x
    ∙ ap (λ (n : ℕ). n * 2 ^ 16 + x % 2 ^ 4)
    (field-mask 12 4 983055 y
    ∙ ap (λ (n : ℕ). n * 2 ^ 16 + y % 2 ^ 4)
    (field-mask 12 4 15 z ∙ ap (λ (n : ℕ). n * 2 ^ 16 + z % 2 ^ 4) (and_mask (z / 2 ^ 16) 4)))

-- ---- one field

hundreds-one : (a : ℕ) → a < 10000 → a * 10486 / 1048576 ≡ a / 100
hundreds-one a l = omega arith

tens-one : (p : ℕ) → p < 100 → p * 103 / 1024 ≡ p / 10
tens-one p l = omega arith

-- ---- the lowest field, and those above it

hundreds-low : (a r : ℕ) → a < 10000 → (a + r * 4294967296) * 10486 / 1048576 % 128 ≡ a / 100
hundreds-low a r l =
    let e : (a + r * 4294967296) * 10486 / 1048576 ≡ a * 10486 / 1048576 + r * 42950656 = omega arith in
    rw (e, hundreds-one a l) (omega arith)

hundreds-high : (a r : ℕ) → a < 10000 → (a + r * 4294967296) * 10486 / 1048576 / 4294967296 ≡ r * 10486 / 1048576
hundreds-high a r l = omega arith

tens-low : (p r : ℕ) → p < 100 → (p + r * 65536) * 103 / 1024 % 16 ≡ p / 10
tens-low p r l =
    let e : (p + r * 65536) * 103 / 1024 ≡ p * 103 / 1024 + r * 6592 = omega arith in
    rw (e, tens-one p l) (omega arith)

tens-high : (p r : ℕ) → p < 100 → (p + r * 65536) * 103 / 1024 / 65536 ≡ r * 103 / 1024
tens-high p r l = omega arith

-- ---- all fields

-- numbers below 100 in fields of 16 bits
abbrev pub quad : ℕ → ℕ → ℕ → ℕ → ℕ
quad p q r s = p + (q + (r + s * 65536) * 65536) * 65536

tens-of : (p q r s : ℕ) → p < 100 → q < 100 → r < 100 → s < 100 → bit_and (quad p q r s * 103 / 1024) 4222189076152335 ≡ quad (p / 10) (q / 10) (r / 10) (s / 10)
tens-of p q r s lp lq lr ls =
    let x = quad p q r s * 103 / 1024 in
    let x₁ : x / 65536 ≡ (q + (r + s * 65536) * 65536) * 103 / 1024 = tens-high p (q + (r + s * 65536) * 65536) lp in
    let x₂ : x / 65536 / 65536 ≡ (r + s * 65536) * 103 / 1024 = ap (λ (y : ℕ). y / 65536) x₁ ∙ tens-high q (r + s * 65536) lq in
    let x₃ : x / 65536 / 65536 / 65536 ≡ s * 103 / 1024 = ap (λ (y : ℕ). y / 65536) x₂ ∙ tens-high r s lr in
    let y₁ : x / 65536 % 16 ≡ q / 10 = ap (λ (y : ℕ). y % 16) x₁ ∙ tens-low q (r + s * 65536) lq in
    let y₂ : x / 65536 / 65536 % 16 ≡ r / 10 = ap (λ (y : ℕ). y % 16) x₂ ∙ tens-low r s lr in
    let y₃ : x / 65536 / 65536 / 65536 % 16 ≡ s / 10 = ap (λ (y : ℕ). y % 16) (x₃ ∙ tens-one s ls) ∙ omega arith in
    mask-four x ∙ rw (y₃, y₂, y₁, tens-low p (q + (r + s * 65536) * 65536) lp) (omega arith)

-- what is left in each field, and the tens
quad-parts :
    (p q r s t₁ t₂ t₃ t₄ u₁ u₂ u₃ u₄ : ℕ) →
    p ≡ t₁ * 10 + u₁ →
    q ≡ t₂ * 10 + u₂ →
    r ≡ t₃ * 10 + u₃ →
    s ≡ t₄ * 10 + u₄ →
    quad t₁ t₂ t₃ t₄ + (quad p q r s - quad t₁ t₂ t₃ t₄ * 10) * 256 ≡ quad (t₁ + u₁ * 256) (t₂ + u₂ * 256) (t₃ + u₃ * 256) (t₄ + u₄ * 256)
quad-parts p q r s t₁ t₂ t₃ t₄ u₁ u₂ u₃ u₄ e₁ e₂ e₃ e₄ = omega arith

pairs-parts :
    (p q r s : ℕ) →
    quad (p / 10) (q / 10) (r / 10) (s / 10) + (quad p q r s - quad (p / 10) (q / 10) (r / 10) (s / 10) * 10) * 256
    ≡ quad (p / 10 + p % 10 * 256) (q / 10 + q % 10 * 256) (r / 10 + r % 10 * 256) (s / 10 + s % 10 * 256)
pairs-parts p q r s =
    let e : (n : ℕ) → n ≡ n / 10 * 10 + n % 10 = λ n. omega arith in
    quad-parts p q r s (p / 10) (q / 10) (r / 10) (s / 10) (p % 10) (q % 10) (r % 10) (s % 10) (e p) (e q) (e r) (e s)

-- the digits of a number's two pairs
abbrev pairs_of_digits : ℕ → ℕ → ℕ
pairs_of_digits a h = a / 100 / 10 + a / 100 % 10 * 256 + (a % 100 / 10 + a % 100 % 10 * 256 + h * 65536) * 65536

four-digits : (a h : ℕ) → a < 10000 → pairs_of_digits a h ≡ a / 10 / 10 / 10 % 10 + 256 * (a / 10 / 10 % 10 + 256 * (a / 10 % 10 + 256 * (a % 10 + 256 * h)))
four-digits a h l =
    let d₁ : a / 100 / 10 ≡ a / 10 / 10 / 10 % 10 = omega arith in
    let d₂ : a / 100 % 10 ≡ a / 10 / 10 % 10 = omega arith in
    let d₃ : a % 100 / 10 ≡ a / 10 % 10 = omega arith in
    let d₄ : a % 100 % 10 ≡ a % 10 = omega arith in
    rw (d₁, d₂, d₃, d₄) (omega arith)

-- there is room for them
pub parts-fit : (p t : ℕ) → p < 36028797018963968 → t ≤ 4222189076152335 → ((p - t * 10) * 256 < 2 ^ 64) × (t + (p - t * 10) * 256 < 2 ^ 64)
parts-fit p t l h = (omega arith, omega arith)

-- ---- the values of the code

abbrev pub fours_of : ℕ → ℕ → ℕ
fours_of a b = a + b * 4294967296

abbrev pub hundreds_of : ℕ → ℕ → ℕ
hundreds_of a b = bit_and (fours_of a b * 10486 / 1048576) 545460846719

abbrev pub pairs_of : ℕ → ℕ → ℕ
pairs_of a b = fours_of a b * 65536 - hundreds_of a b * 6553599

abbrev pub tens_of : ℕ → ℕ → ℕ
tens_of a b = bit_and (pairs_of a b * 103 / 1024) 4222189076152335

module _ (a b : ℕ) (la : a < 10000) (lb : b < 10000) where
  pub hundreds-are : hundreds_of a b ≡ a / 100 + b / 100 * 4294967296
  hundreds-are =
      let x = fours_of a b * 10486 / 1048576 in
      let y : x / 4294967296 % 128 ≡ b / 100 = ap (λ (n : ℕ). n % 128) (hundreds-high a b la ∙ hundreds-one b lb) ∙ omega arith in
      mask-two x ∙ rw (y, hundreds-low a b la) (omega arith)

  pub pairs-are : pairs_of a b ≡ quad (a / 100) (a % 100) (b / 100) (b % 100)
  pairs-are = omega (arith, hundreds-are)

  pub tens-are : tens_of a b ≡ quad (a / 100 / 10) (a % 100 / 10) (b / 100 / 10) (b % 100 / 10)
  tens-are = ap (λ (x : ℕ). bit_and (x * 103 / 1024) 4222189076152335) pairs-are ∙ tens-of (a / 100) (a % 100) (b / 100) (b % 100) (omega arith) (omega arith) (omega arith) (omega arith)

  pub pairs-bound : pairs_of a b < 36028797018963968
  pairs-bound = omega (arith, pairs-are)

  pub digits_are : tens_of a b + (pairs_of a b - tens_of a b * 10) * 256 ≡ word_of (digit_list 4 a ++ digit_list 4 b)
  unfolding word_of digit_list
  digits_are =
      let e : b / 100 / 10 + b / 100 % 10 * 256 + (b % 100 / 10 + b % 100 % 10 * 256) * 65536 ≡ pairs_of_digits b 0 = omega arith in
      rw (tens-are, pairs-are)
      (pairs-parts (a / 100) (a % 100) (b / 100) (b % 100)
      ∙ ap (pairs_of_digits a) (e ∙ four-digits b 0 lb)
      ∙ four-digits a (word_of (digit_list 4 b)) la)
