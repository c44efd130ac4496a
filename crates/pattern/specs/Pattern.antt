-- Document 01, 'Tasks', on patterns: "A pattern is the 64 bits of an IEEE 754 binary64 value."
-- `add`, `sub` and `mul` of the logic's IEEE 754 round once, to nearest, ties to even. It has one NaN, with no sign and no payload.
use Rattle.std.specs.Prelude.{ℕ, Bool, ◌||◌, cond, Float}
use Rattle.std.specs.Float.{binary64}
use Rattle.std.specs.Float.Ieee.{of_bits, to_bits, nan_bits, add, sub, mul, neg, lt, is_nan}
use Rattle.pattern.specs.declared.WindLaw.{WindLaw}

abbrev pub is_nan_of : ℕ → Bool
is_nan_of a = nan_bits binary64 a

-- the value that a pattern stands for
abbrev pub value_of : ℕ → Float
value_of a = of_bits binary64 a

-- the pattern of a value: "a NaN result becomes the pattern 7FF8000000000000" (the law `pattern-of-nan`)
abbrev pub pattern_of : Float → ℕ
pattern_of x = to_bits binary64 x

-- "Sum is a + b, Diff a − b, Scale factor × a"
unfoldable pub sum_of : ℕ → ℕ → ℕ
sum_of a b = pattern_of (add binary64 (value_of a) (value_of b))

unfoldable pub diff_of : ℕ → ℕ → ℕ
diff_of a b = pattern_of (sub binary64 (value_of a) (value_of b))

unfoldable pub scale_of : Float → ℕ → ℕ
scale_of factor a = pattern_of (mul binary64 factor (value_of a))

-- "Limit gives low if a < low or a is NaN, high if a > high, else a's own pattern"
unfoldable pub limit_of : ℕ → Float → Float → ℕ
limit_of a low high =
    cond (lt (value_of a) low || is_nan (value_of a)) (pattern_of low) (cond (lt high (value_of a)) (pattern_of high) a)

-- "then limited from −cap to cap as Limit does": −cap is cap with its sign changed, so that −(+0) is −0
unfoldable pub wind_limit_of : ℕ → WindLaw → ℕ
wind_limit_of raw law = limit_of raw (neg law.cap) law.cap

-- "Wind gives the target's old value plus rate × a (two roundings)"
unfoldable pub wind_of : ℕ → ℕ → WindLaw → ℕ
wind_of old a law = wind_limit_of (pattern_of (add binary64 (value_of old) (mul binary64 law.rate (value_of a)))) law
