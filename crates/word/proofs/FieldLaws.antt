-- A word of fields and a mask, field by field: the lowest field, and the fields above it.
use mathlib.Core.Path.{◌≡◌, sym, ap, ◌∙◌}
use Prim.Native.Nat.{ℕ, ◌+◌, ◌-◌, ◌*◌, ◌/◌, ◌%◌, ◌^◌, ◌≤◌, ◌<◌}
use native.Mathlib.Nat.{lt_of_lt_of_le, mod-lt}
use lib.Bits.{bit_and, and_block, and_mask}
use lib.Pow.{pow_mono, pow_pos, ones_lt, split}

-- the lowest field of a word by that of the mask
pub and-field : (k x a m : ℕ) → a < 2 ^ k → bit_and x (m * 2 ^ k + a) ≡ bit_and (x / 2 ^ k) m * 2 ^ k + bit_and (x % 2 ^ k) a
and-field k x a m l = ap (λ (y : ℕ). bit_and y (m * 2 ^ k + a)) (sym (split x k)) ∙ and_block k (x / 2 ^ k) m (x % 2 ^ k) a (mod-lt x (pow_pos k)) l

-- a mask that keeps the low bits of a field
pub mask_step :
    (k j n r l m : ℕ) →
    n ≡ r * 2 ^ k + l →
    l < 2 ^ k →
    j ≤ k →
    bit_and n (m * 2 ^ k + (2 ^ j - 1)) ≡ bit_and r m * 2 ^ k + l % 2 ^ j
mask_step k j n r l m e f h =
    ap (λ (x : ℕ). bit_and x (m * 2 ^ k + (2 ^ j - 1))) e
    ∙ and_block k r m l (2 ^ j - 1) f (lt_of_lt_of_le (ones_lt j) (pow_mono h))
    ∙ ap (λ (x : ℕ). bit_and r m * 2 ^ k + x) (and_mask l j)
