-- Which constants a plan allows: "Factor, low, high, rate and cap are patterns of finite values; low ≤ high; cap has sign bit 0."
use Rattle.std.specs.Prelude.{Bool, true, false, not, ℕ, T, Float}
use Rattle.std.specs.Float.{nan, inf, fin}
use Rattle.std.specs.Float.Ieee.{le}
use Rattle.pattern.specs.Pattern.{value_of}

unfoldable pub is_finite : Float → Bool
is_finite nan = false
is_finite (inf s) = false
is_finite (fin s m e) = true

-- a finite value whose sign bit is 0: +0 is one, −0 is not
unfoldable pub finite_unsigned : Float → Bool
finite_unsigned nan = false
finite_unsigned (inf s) = false
finite_unsigned (fin s m e) = not s

-- the value of the pattern r lies from low to high, as floats
pub record Within (low high : Float) (r : ℕ) : Type 0 where
  pub above : T (le low (value_of r))
  pub below : T (le (value_of r) high)
