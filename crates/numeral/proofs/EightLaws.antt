-- Eight digits in one word: the test that each byte is a digit, and neighbours joined to the number.
use Rattle.std.specs.Prelude.{None, Some}
use Rattle.std.proofs.Common.{◌≡◌, ℕ, zero, suc, ◌+◌, ◌-◌, ◌*◌, ◌/◌, ◌%◌, ◌^◌, ◌<◌, ◌≤◌, Bool, true, false, cond, not, ◌&&◌, eqb, leb, List, get_or, replicate, refl, ap, ◌∙◌, add-zero, pow-suc, arith, lit<, lit≤, eq-eqb, eqb-true, le-leb, leb-true}
use lib.Bits.{bit_and, and_block, and_mask, and_zero_r}
use borrow.Author.Tests.{not-true, not-false}
use Rattle.array.specs.Index.{all_below}
use Rattle.array.proofs.TestLaws.{split, clash, and_left, and_right, and_both}
use Rattle.array.proofs.IndexLaws.{all_below-at, all_below-all}
use Rattle.word.specs.Word.{word_of, word_at}
use Rattle.word.proofs.FieldLaws.{and-field, mask_step}
use Rattle.numeral.specs.Numeral.{is_digit}
use Rattle.numeral.specs.Code.{decimal_from}

-- each of the m lowest bytes is below a bound, and nothing is above them
unfoldable pub Below : ℕ → ℕ → ℕ → Type 0
Below c zero x = x ≡ 0
Below c (suc m) x = (x % 256 < c) × Below c m (x / 256)

-- ---- the high bit of each byte

-- the lowest byte, and the bytes above it
and_low : (x a m : ℕ) → a < 256 → bit_and x (a + 256 * m) ≡ bit_and (x % 256) a + 256 * bit_and (x / 256) m
and_low x a m l = let f : a + 256 * m ≡ m * 2 ^ 8 + a = omega arith in ap (bit_and x) f ∙ and-field 8 x a m l ∙ omega arith

-- of a byte
and_high : (b : ℕ) → b < 256 → bit_and b 128 ≡ b / 128 * 128
and_high b l =
    let e : b ≡ b / 128 * 2 ^ 7 + b % 128 = omega arith in
    ap (λ (y : ℕ). bit_and y 128) e
    ∙ and_block 7 (b / 128) 1 (b % 128) 0 (omega arith) (omega arith)
    ∙ rw (and_zero_r (b % 128), and_mask (b / 128) 1) (omega arith)

-- 118 more in each byte
and-more : (x s m : ℕ) → x % 256 < 138 → bit_and (x + (118 + 256 * s)) (128 + 256 * m) ≡ bit_and (x % 256 + 118) 128 + 256 * bit_and (x / 256 + s) m
and-more x s m l =
    let low : (x + (118 + 256 * s)) % 256 ≡ x % 256 + 118 = omega (arith, l) in
    let high : (x + (118 + 256 * s)) / 256 ≡ x / 256 + s = omega (arith, l) in
    and_low (x + (118 + 256 * s)) 128 m (omega arith) ∙ rw (low, high)

-- the test of the code says that each byte is at most 9
test_below : (m x : ℕ) → x < 256 ^ m → bit_and x (word_of (replicate m 128)) ≡ 0 → bit_and (x + word_of (replicate m 118)) (word_of (replicate m 128)) ≡ 0 → Below 10 m x
unfolding Below word_of
test_below zero x l e f = omega arith
test_below (suc m) x l e f =
    let a = and_low x 128 (word_of (replicate m 128)) (omega arith) in
    let h = and_high (x % 256) (omega arith) in
    let b = and-more x (word_of (replicate m 118)) (word_of (replicate m 128)) (omega (arith, a, h, e)) in
    let g = and_high (x % 256 + 118) (omega (arith, a, h, e)) in
    (omega (arith, b, g, f), test_below m (x / 256) (omega (arith, l, pow-suc 256 m)) (omega (arith, a, e)) (omega (arith, b, f)))

-- and of such bytes it holds
below-test : (m x : ℕ) → Below 10 m x → (bit_and x (word_of (replicate m 128)) ≡ 0) × (bit_and (x + word_of (replicate m 118)) (word_of (replicate m 128)) ≡ 0)
unfolding Below word_of
below-test zero x h = (and_zero_r x, and_zero_r (x + 0))
below-test (suc m) x h =
    let n = below-test m (x / 256) h.1 in
    let a = and_low x 128 (word_of (replicate m 128)) (omega arith) in
    let p = and_high (x % 256) (omega arith) in
    let b = and-more x (word_of (replicate m 118)) (word_of (replicate m 128)) (omega (arith, h.0)) in
    let g = and_high (x % 256 + 118) (omega (arith, h.0)) in
    (omega (arith, a, p, n.0, h.0), omega (arith, b, g, n.1, h.0))

below-bound : (m x : ℕ) → Below 10 m x → x ≤ word_of (replicate m 9)
unfolding Below word_of
below-bound zero x h = omega (arith, h)
below-bound (suc m) x h = omega (arith, h.0, below-bound m (x / 256) h.1)

-- ---- the bytes

-- the digits of m bytes from a place on, in a word
unfoldable pub digits_at : ℕ → List ℕ → ℕ → ℕ
digits_at zero d i = 0
digits_at (suc m) d i = (get_or d i 0 - 48) + 256 * digits_at m d (i + 1)

-- each of the m bytes from a place on is a digit
abbrev pub AreDigits : ℕ → List ℕ → ℕ → Type 0
AreDigits m d i = (k : ℕ) → k < m → (48 ≤ get_or d (i + k) 0) × (get_or d (i + k) 0 ≤ 57)

are-first : (m : ℕ) (d : List ℕ) (i : ℕ) → AreDigits (suc m) d i → (48 ≤ get_or d i 0) × (get_or d i 0 ≤ 57)
are-first m d i f = rw (← add-zero i) (f 0 (omega arith))

are-rest : (m : ℕ) (d : List ℕ) (i : ℕ) → AreDigits (suc m) d i → AreDigits m d (i + 1)
are-rest m d i f k l = let e : i + 1 + k ≡ i + suc k = omega arith in rw e (f (suc k) (omega (arith, l)))

are-more : (m : ℕ) (d : List ℕ) (i : ℕ) → (48 ≤ get_or d i 0) × (get_or d i 0 ≤ 57) → AreDigits m d (i + 1) → AreDigits (suc m) d i
are-more m d i a f zero l = rw (add-zero i) a
are-more m d i a f (suc k) l = let e : i + suc k ≡ i + 1 + k = omega arith in rw e (f k (omega (arith, l)))

-- digits are what they are with 48 taken from each
word-of-digits : (m : ℕ) (d : List ℕ) (i : ℕ) → AreDigits m d i → word_at m d i ≡ digits_at m d i + word_of (replicate m 48)
unfolding word_at digits_at word_of
word-of-digits zero d i f = refl
word-of-digits (suc m) d i f = omega (arith, are-first m d i f, word-of-digits m d (i + 1) (are-rest m d i f))

digits-below : (m : ℕ) (d : List ℕ) (i : ℕ) → AreDigits m d i → Below 10 m (digits_at m d i)
unfolding digits_at Below
digits-below zero d i f = refl
digits-below (suc m) d i f =
    let a = are-first m d i f in
    let r : ((get_or d i 0 - 48) + 256 * digits_at m d (i + 1)) / 256 ≡ digits_at m d (i + 1) = omega (arith, a) in
    (omega (arith, a), rw r (digits-below m d (i + 1) (are-rest m d i f)))

-- and the other way round
digits-of-word :
    (m : ℕ) (d : List ℕ) (i x : ℕ) → ((k : ℕ) → get_or d k 0 < 256) → Below 10 m x → x + word_of (replicate m 48) ≡ word_at m d i → AreDigits m d i × (x ≡ digits_at m d i)
unfolding word_at digits_at word_of Below
digits-of-word zero d i x b h e = ((λ k l. absurd (omega (arith, l))), h)
digits-of-word (suc m) d i x b h e =
    let l = b i in
    let a : get_or d i 0 ≡ x % 256 + 48 = omega (arith, l, e, h.0) in
    let r : x / 256 + word_of (replicate m 48) ≡ word_at m d (i + 1) = omega (arith, l, e, h.0) in
    let n = digits-of-word m d (i + 1) (x / 256) b h.1 r in
    (are-more m d i (omega (arith, a), omega (arith, a, h.0)) n.0, omega (arith, a, n.1))

-- ---- neighbours joined

-- two digits to a pair, and two pairs to four digits, and the fields above them
join-pair :
    (u v x m : ℕ) → u ≤ 9 → v ≤ 9 → x % 256 ≤ 9 →
    bit_and ((u + 256 * (v + 256 * x)) * 10 + (u + 256 * (v + 256 * x)) / 256) (m * 65536 + 255) ≡ bit_and (x * 10 + x / 256) m * 65536 + (u * 10 + v)
join-pair u v x m a b c =
    mask_step 16 8 ((u + 256 * (v + 256 * x)) * 10 + (u + 256 * (v + 256 * x)) / 256) (x * 10 + x / 256) (u * 10 + v + 256 * (v * 10 + x % 256)) m
    (omega (arith, a, b, c)) (omega (arith, a, b, c)) (lit≤ tt)
    ∙ omega (arith, a, b, c)

join-four :
    (u v x m : ℕ) → u ≤ 99 → v ≤ 99 → x % 65536 ≤ 99 →
    bit_and ((u + 65536 * (v + 65536 * x)) * 100 + (u + 65536 * (v + 65536 * x)) / 65536) (m * 4294967296 + 65535) ≡ bit_and (x * 100 + x / 65536) m * 4294967296 + (u * 100 + v)
join-four u v x m a b c =
    mask_step 32 16 ((u + 65536 * (v + 65536 * x)) * 100 + (u + 65536 * (v + 65536 * x)) / 65536) (x * 100 + x / 65536) (u * 100 + v + 65536 * (v * 100 + x % 65536)) m
    (omega (arith, a, b, c)) (omega (arith, a, b, c)) (lit≤ tt)
    ∙ omega (arith, a, b, c)

-- eight digits to four pairs
pairs-joined :
    (a b c d e f g h : ℕ) → a ≤ 9 → b ≤ 9 → c ≤ 9 → d ≤ 9 → e ≤ 9 → f ≤ 9 → g ≤ 9 → h ≤ 9 →
    (x : ℕ) →
    x ≡ a + 256 * (b + 256 * (c + 256 * (d + 256 * (e + 256 * (f + 256 * (g + 256 * (h + 256 * 0))))))) →
    bit_and (x * 10 + x / 256) 71777214294589695 ≡ (a * 10 + b) + 65536 * ((c * 10 + d) + 65536 * ((e * 10 + f) + 65536 * (g * 10 + h + 65536 * 0)))
pairs-joined a b c d e f g h la lb lc ld le lf lg lh x q =
    let x₃ = g + 256 * (h + 256 * 0) in
    let x₂ = e + 256 * (f + 256 * x₃) in
    let x₁ = c + 256 * (d + 256 * x₂) in
    let p₀ : bit_and (x * 10 + x / 256) 71777214294589695 ≡ bit_and (x₁ * 10 + x₁ / 256) 1095233372415 * 65536 + (a * 10 + b) = rw q (join-pair a b x₁ 1095233372415 la lb (omega (arith, lc))) in
    let p₁ : bit_and (x₁ * 10 + x₁ / 256) 1095233372415 ≡ bit_and (x₂ * 10 + x₂ / 256) 16711935 * 65536 + (c * 10 + d) = join-pair c d x₂ 16711935 lc ld (omega (arith, le)) in
    let p₂ : bit_and (x₂ * 10 + x₂ / 256) 16711935 ≡ bit_and (x₃ * 10 + x₃ / 256) 255 * 65536 + (e * 10 + f) = join-pair e f x₃ 255 le lf (omega (arith, lg)) in
    let p₃ : bit_and (x₃ * 10 + x₃ / 256) 255 ≡ bit_and 0 0 * 65536 + (g * 10 + h) = join-pair g h 0 0 lg lh (omega arith) in
    let z : bit_and 0 0 ≡ 0 = and_zero_r 0 in
    omega (arith, p₀, p₁, p₂, p₃, z)

-- four pairs to two fours
fours-joined :
    (a b c d : ℕ) → a ≤ 99 → b ≤ 99 → c ≤ 99 → d ≤ 99 →
    (x : ℕ) →
    x ≡ a + 65536 * (b + 65536 * (c + 65536 * (d + 65536 * 0))) →
    bit_and (x * 100 + x / 65536) 281470681808895 ≡ (a * 100 + b) + 4294967296 * (c * 100 + d)
fours-joined a b c d la lb lc ld x q =
    let x₁ = c + 65536 * (d + 65536 * 0) in
    let p₀ : bit_and (x * 100 + x / 65536) 281470681808895 ≡ bit_and (x₁ * 100 + x₁ / 65536) 65535 * 4294967296 + (a * 100 + b) = rw q (join-four a b x₁ 65535 la lb (omega (arith, lc))) in
    let p₁ : bit_and (x₁ * 100 + x₁ / 65536) 65535 ≡ bit_and 0 0 * 4294967296 + (c * 100 + d) = join-four c d 0 0 lc ld (omega arith) in
    let z : bit_and 0 0 ≡ 0 = and_zero_r 0 in
    omega (arith, p₀, p₁, z)

-- two fours to the number
low_field : (y z : ℕ) → y < 4294967296 → ((y + 4294967296 * z) % 4294967296 ≡ y) × ((y + 4294967296 * z) / 4294967296 ≡ z)
low_field y z l = (omega (arith, l), omega (arith, l))

eight-joined : (a b x : ℕ) → a ≤ 9999 → b ≤ 9999 → x ≡ a + 4294967296 * b → bit_and (x * 10000 + x / 4294967296) 4294967295 ≡ a * 10000 + b
eight-joined a b x la lb q =
    let r : (a + 4294967296 * b) * 10000 + b ≡ a * 10000 + b + 4294967296 * (b * 10000) = omega arith in
    rw (q, (low_field a b (omega (arith, la))).1, r)
    (and_mask (a * 10000 + b + 4294967296 * (b * 10000)) 32 ∙ (low_field (a * 10000 + b) (b * 10000) (omega (arith, la, lb))).0)

-- the code's three steps, on eight digits
steps-joined :
    (a b c d e f g h : ℕ) → a ≤ 9 → b ≤ 9 → c ≤ 9 → d ≤ 9 → e ≤ 9 → f ≤ 9 → g ≤ 9 → h ≤ 9 →
    (x p q : ℕ) →
    x ≡ a + 256 * (b + 256 * (c + 256 * (d + 256 * (e + 256 * (f + 256 * (g + 256 * (h + 256 * 0))))))) →
    p ≡ bit_and (x * 10 + x / 256) 71777214294589695 →
    q ≡ bit_and (p * 100 + p / 65536) 281470681808895 →
    bit_and (q * 10000 + q / 4294967296) 4294967295 ≡ (((((((0 * 10 + a) * 10 + b) * 10 + c) * 10 + d) * 10 + e) * 10 + f) * 10 + g) * 10 + h
steps-joined a b c d e f g h la lb lc ld le lf lg lh x p q ex ep eq =
    let ps = ep ∙ pairs-joined a b c d e f g h la lb lc ld le lf lg lh x ex in
    let qs = eq ∙ fours-joined (a * 10 + b) (c * 10 + d) (e * 10 + f) (g * 10 + h) (omega (arith, la, lb)) (omega (arith, lc, ld)) (omega (arith, le, lf)) (omega (arith, lg, lh)) p ps in
    eight-joined ((a * 10 + b) * 100 + (c * 10 + d)) ((e * 10 + f) * 100 + (g * 10 + h)) q (omega (arith, la, lb, lc, ld)) (omega (arith, le, lf, lg, lh)) qs
    ∙ omega arith

-- of digits in a list
eight-number :
    (d : List ℕ) (i : ℕ) →
    AreDigits 8 d i →
    (x p q : ℕ) →
    x ≡ digits_at 8 d i →
    p ≡ bit_and (x * 10 + x / 256) 71777214294589695 →
    q ≡ bit_and (p * 100 + p / 65536) 281470681808895 →
    bit_and (q * 10000 + q / 4294967296) 4294967295 ≡ decimal_from d i 8
unfolding digits_at decimal_from
eight-number d i f x p q ex ep eq =
    let e₂ : i + 1 + 1 ≡ i + 2 = omega arith in
    let e₃ : i + 2 + 1 ≡ i + 3 = omega arith in
    let e₄ : i + 3 + 1 ≡ i + 4 = omega arith in
    let e₅ : i + 4 + 1 ≡ i + 5 = omega arith in
    let e₆ : i + 5 + 1 ≡ i + 6 = omega arith in
    let e₇ : i + 6 + 1 ≡ i + 7 = omega arith in
    let g : ℕ → ℕ = λ k. get_or d (i + k) 0 - 48 in
    let b : (k : ℕ) → k < 8 → g k ≤ 9 = λ k l. let h = f k l in omega (arith, h) in
    let xs : x ≡ g 0 + 256 * (g 1 + 256 * (g 2 + 256 * (g 3 + 256 * (g 4 + 256 * (g 5 + 256 * (g 6 + 256 * (g 7 + 256 * 0))))))) = ex ∙ rw (e₂, e₃, e₄, e₅, e₆, e₇, add-zero i) in
    steps-joined (g 0) (g 1) (g 2) (g 3) (g 4) (g 5) (g 6) (g 7) (b 0 (lit< tt)) (b 1 (lit< tt)) (b 2 (lit< tt)) (b 3 (lit< tt)) (b 4 (lit< tt)) (b 5 (lit< tt)) (b 6 (lit< tt)) (b 7 (lit< tt)) x p q xs ep eq

-- ---- the test, of a word that is eight bytes with 48 taken from each, around 2^64

high-bound : (m x : ℕ) → x < 256 ^ m → bit_and x (word_of (replicate m 128)) ≡ 0 → x ≤ word_of (replicate m 127)
unfolding word_of
high-bound zero x l e = omega (arith, l)
high-bound (suc m) x l e =
    let a = and_low x 128 (word_of (replicate m 128)) (omega arith) in
    let h = and_high (x % 256) (omega arith) in
    omega (arith, a, h, e, high-bound m (x / 256) (omega (arith, l, pow-suc 256 m)) (omega (arith, a, e)))

are-of-test : (m : ℕ) (d : List ℕ) (i : ℕ) → all_below (λ k. is_digit (get_or d (i + k) 0)) m ≡ true → AreDigits m d i
are-of-test m d i a k l =
    let b = get_or d (i + k) 0 in
    let t : is_digit b ≡ true = all_below-at (λ k. is_digit (get_or d (i + k) 0)) m k l a in
    (leb-true 48 b (and_left (leb 48 b) (leb b 57) t), leb-true b 57 (and_right (leb 48 b) (leb b 57) t))

test-of-are : (m : ℕ) (d : List ℕ) (i : ℕ) → AreDigits m d i → all_below (λ k. is_digit (get_or d (i + k) 0)) m ≡ true
test-of-are m d i f = all_below-all (λ k. is_digit (get_or d (i + k) 0)) m (λ k l. and_both (le-leb 48 (get_or d (i + k) 0) (f k l).0) (le-leb (get_or d (i + k) 0) 57 (f k l).1))

-- the test: the high bits of x, and of x with 118 more in each byte
abbrev pub passed : ℕ → ℕ → Bool
passed x y = eqb (bit_and x 9259542123273814144) 0 && eqb (bit_and y 9259542123273814144) 0

module _
    (d : List ℕ) (i x y : ℕ)
    (bytes : (k : ℕ) → get_or d k 0 < 256)
    (small : x < 2 ^ 64)
    (taken : (x + 3472328296227680304) % 2 ^ 64 ≡ word_at 8 d i)
    (added : y ≡ (x + 8536140394893047414) % 2 ^ 64) where
  eight-yes :
      bit_and x 9259542123273814144 ≡ 0 →
      bit_and y 9259542123273814144 ≡ 0 →
      AreDigits 8 d i × (x ≡ digits_at 8 d i)
  unfolding word_of
  eight-yes e f =
      let b = high-bound 8 x small e in
      let z : y ≡ x + 8536140394893047414 = omega (arith, added, b) in
      let h = test_below 8 x small e (rw (← z) f) in
      digits-of-word 8 d i x bytes h (omega (arith, taken, below-bound 8 x h))

  eight-no : AreDigits 8 d i → (bit_and x 9259542123273814144 ≡ 0) × (bit_and y 9259542123273814144 ≡ 0)
  unfolding word_of
  eight-no f =
      let h = digits-below 8 d i f in
      let b = below-bound 8 (digits_at 8 d i) h in
      let w = word-of-digits 8 d i f in
      let e : x ≡ digits_at 8 d i = omega (arith, taken, b, w, small) in
      let z : y ≡ x + 8536140394893047414 = omega (arith, added, b, e) in
      let t = below-test 8 x (rw e h) in
      (t.0, rw z t.1)

  -- what the code's test says
  pub eight-test : not (passed x y) ≡ false → AreDigits 8 d i × (x ≡ digits_at 8 d i)
  eight-test t =
      let a = eqb (bit_and x 9259542123273814144) 0 in
      let b = eqb (bit_and y 9259542123273814144) 0 in
      let h = not-false (a && b) t in
      eight-yes (eqb-true (bit_and x 9259542123273814144) 0 (and_left a b h)) (eqb-true (bit_and y 9259542123273814144) 0 (and_right a b h))

  pub eight-bound : not (passed x y) ≡ false → x ≤ 651061555542690057
  unfolding word_of
  eight-bound t =
      let h = eight-test t in
      omega (arith, h.1, below-bound 8 (digits_at 8 d i) (digits-below 8 d i h.0))

  -- what the code answers
  pub eight-none : not (passed x y) ≡ true → all_below (λ k. is_digit (get_or d (i + k) 0)) 8 ≡ false
  eight-none t =
      let q = not-true (passed x y) t in
      split (all_below (λ k. is_digit (get_or d (i + k) 0)) 8)
      (λ a. let n = eight-no (are-of-test 8 d i a) in absurd (clash (and_both (eq-eqb (bit_and x 9259542123273814144) 0 n.0) (eq-eqb (bit_and y 9259542123273814144) 0 n.1)) q))
      (λ a. a)

  pub eight-some :
      not (passed x y) ≡ false →
      (p q : ℕ) →
      p ≡ bit_and (x * 10 + x / 256) 71777214294589695 →
      q ≡ bit_and (p * 100 + p / 65536) 281470681808895 →
      Some (bit_and (q * 10000 + q / 4294967296) 4294967295) ≡ cond (all_below (λ k. is_digit (get_or d (i + k) 0)) 8) (Some (decimal_from d i 8)) None
  eight-some t p q ep eq =
      let h = eight-test t in
      rw (test-of-are 8 d i h.0) (ap Some (eight-number d i h.0 x p q h.1 ep eq))
