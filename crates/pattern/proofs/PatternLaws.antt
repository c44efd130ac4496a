-- Laws of the arithmetic on patterns: the NaN pattern, the cases of Limit, and that every result is a pattern.
use Prim.Native.Nat.{ℕ, ◌<◌, ◌^◌}
use mathlib.Core.Path.{◌≡◌, refl, sym}
use mathlib.Core.Bool.{Bool, true, false, ◌||◌, cond}
use lib.Dec.{T}
use lib.Ieee.{Float, nan, binary64, to_bits, is_nan, lt, add, sub, mul, fits, neg}
use lib.Ieee.Bits.{nan_bits_is, to_bits-lt}
use lib.Ieee.Fits.{add-fits, sub-fits, mul-fits, neg-fits}
use Rattle.pattern.specs.declared.WindLaw.{WindLaw}
use Rattle.pattern.specs.Pattern.{is_nan_of, value_of, pattern_of, sum_of, diff_of, scale_of, limit_of, wind_limit_of, wind_of}

-- 7FF8000000000000
pub pattern-of-nan : pattern_of nan ≡ 0x7ff8000000000000
unfolding to_bits
pattern-of-nan = refl

-- ---- the cases of Limit

-- the code's test, by the results of its two calls
pub tested : {x y a b t : Bool} → x ≡ a → y ≡ b → (x || y) ≡ t → (a || b) ≡ t
tested e f h = rw (← e, ← f) h

module _ (a : ℕ) (low high : Float) where
  pub limit-low : (lt (value_of a) low || is_nan_of a) ≡ true → limit_of a low high ≡ pattern_of low
  unfolding limit_of
  limit-low l = rw (sym (nan_bits_is binary64 a), l)

  pub limit-high : (lt (value_of a) low || is_nan_of a) ≡ false → lt high (value_of a) ≡ true → limit_of a low high ≡ pattern_of high
  unfolding limit_of
  limit-high l h = rw (sym (nan_bits_is binary64 a), l, h)

  pub limit-own : (lt (value_of a) low || is_nan_of a) ≡ false → lt high (value_of a) ≡ false → limit_of a low high ≡ a
  unfolding limit_of
  limit-own l h = rw (sym (nan_bits_is binary64 a), l, h)

-- ---- every result is a pattern

pub pattern-bound : (x : Float) → T (fits binary64 x) → pattern_of x < 2 ^ 64
pattern-bound x f = to_bits-lt binary64 x f

pub sum_bound : (a b : ℕ) → sum_of a b < 2 ^ 64
unfolding sum_of
sum_bound a b = pattern-bound (add binary64 (value_of a) (value_of b)) (add-fits binary64 (value_of a) (value_of b))

pub diff-bound : (a b : ℕ) → diff_of a b < 2 ^ 64
unfolding diff_of
diff-bound a b = pattern-bound (sub binary64 (value_of a) (value_of b)) (sub-fits binary64 (value_of a) (value_of b))

pub scale-bound : (factor : Float) (a : ℕ) → scale_of factor a < 2 ^ 64
unfolding scale_of
scale-bound factor a = pattern-bound (mul binary64 factor (value_of a)) (mul-fits binary64 factor (value_of a))

pub limit-bound : (a : ℕ) (low high : Float) → a < 2 ^ 64 → T (fits binary64 low) → T (fits binary64 high) → limit_of a low high < 2 ^ 64
unfolding limit_of
limit-bound a low high h f g = go (lt (value_of a) low || is_nan (value_of a)) (lt high (value_of a))
  where
    go : (b c : Bool) → cond b (pattern_of low) (cond c (pattern_of high) a) < 2 ^ 64
    go true c = pattern-bound low f
    go false true = pattern-bound high g
    go false false = h

pub wind-bound : (old a : ℕ) (law : WindLaw) → T (fits binary64 law.cap) → wind_of old a law < 2 ^ 64
unfolding wind_of wind_limit_of
wind-bound old a law f =
    limit-bound _ (neg law.cap) law.cap
    (pattern-bound _ (add-fits binary64 (value_of old) (mul binary64 law.rate (value_of a))))
    (neg-fits binary64 law.cap f) f
