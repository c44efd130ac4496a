-- The mask that takes 16 from each byte before the first that is not zero.
use mathlib.Core.Path.{◌≡◌, ap, ◌∙◌, subst}
use Prim.Native.Nat.{ℕ, zero, suc, ◌+◌, ◌-◌, ◌*◌, ◌/◌, ◌%◌, ◌^◌, ◌<◌, ◌≤◌}
use native.Mathlib.Nat.{one-mul, mod-one, suc-add, pow-suc, le_trans}
use native.Mathlib.Omega.{arith}
use lib.Arith.{mod-mul}
use lib.Bits.{bit_and, and_mask, and_le_l}
use lib.Dec.{eqb, lit<, lit≤}
use lib.ListN.{replicate}
use lib.Pow.{pow_pos, pow-add, shl_exact}
use mir.Syntax.{w64}
use mir.Val.{Fits}
use borrow.Author.Tests.{eqb-true}
use Rattle.array.proofs.TestLaws.{split}
use Rattle.word.specs.Word.{word_of, low_run}

-- a byte of a number above zero is not zero
low-zeros-lt : (m x : ℕ) → 0 < x → x < 256 ^ m → low_run 0 m x < m
unfolding low_run
low-zeros-lt zero x p l = absurd (omega arith)
low-zeros-lt (suc m) x p l =
    split (eqb (x % 256) 0)
    (λ t. let e = eqb-true (x % 256) 0 t in rw t (omega (arith, low-zeros-lt m (x / 256) (omega arith) (omega (arith, pow-suc 256 m)))))
    (λ t. rw t (omega arith))

pub zeros-lt : (x y : ℕ) → x < 2 ^ 60 → 0 < y → y < 2 ^ 60 → low_run 0 8 (x + y) < 8
zeros-lt x y l p h = low-zeros-lt 8 (x + y) (omega arith) (omega arith)

-- 16 in each of the z lowest bytes
sixteens : (z r : ℕ) → word_of (replicate (z + r) 16) % 2 ^ (8 * z) ≡ word_of (replicate z 16)
unfolding word_of
sixteens zero r = mod-one (word_of (replicate (zero + r) 16))
sixteens (suc z) r =
    let n = word_of (replicate (z + r) 16) in
    let k : 8 * suc z ≡ 8 * z + 8 = omega arith in
    let high : (16 + 256 * n) / 256 ≡ n = omega arith in
    let low : (16 + 256 * n) % 256 ≡ 16 = omega arith in
    rw (suc-add z r, k, pow-add 2 (8 * z) 8, mod-mul (16 + 256 * n) {m = 2 ^ (8 * z)} {c = 256} (pow_pos (8 * z)) (lit< tt), high, low, sixteens z r)
    (omega arith)

module _ (z : ℕ) (l : z < 8) where
  shift_one : 1 * 2 ^ (8 * z) % 2 ^ 64 ≡ 2 ^ (8 * z)
  shift_one = shl_exact {a = 1} 1 (8 * z) 64 (lit< tt) (omega arith) ∙ one-mul (2 ^ (8 * z))

  pub shift-above : 1 ≤ 1 * 2 ^ (8 * z) % 2 ^ 64
  shift-above = rw shift_one (pow_pos (8 * z))

  pub blanks-mask : bit_and 1157442765409226768 (1 * 2 ^ (8 * z) % 2 ^ 64 - 1) ≡ word_of (replicate z 16)
  unfolding word_of
  blanks-mask =
      let k : z + (8 - z) ≡ 8 = omega arith in
      ap (λ (x : ℕ). bit_and 1157442765409226768 (x - 1)) shift_one ∙ and_mask 1157442765409226768 (8 * z)
      ∙ subst (λ (n : ℕ). word_of (replicate n 16) % 2 ^ (8 * z) ≡ word_of (replicate z 16)) k (sixteens z (8 - z))

pub blanks-room : (x : ℕ) → bit_and 1157442765409226768 x ≤ 3472328296227680304
blanks-room x = le_trans (and_le_l 1157442765409226768 x) (lit≤ tt)

pub glyphs-fit : (d x : ℕ) → d < 2 ^ 60 → Fits w64 (d + (3472328296227680304 - x))
glyphs-fit d x l = omega arith
