use mathlib.Core.Path.{sym, ◌∙◌}
use lib.Ieee.{of_bits, div, binary64}
use lib.Ieee.Bits.{nan_bits_is}
use Rattle.pattern.proofs.FloatLaws.{nan-only, fails}
use Rattle.pattern.proofs.value.Goals as goal

pub returns-then-is_nan : goal.returns-then-is_nan
unfolding of_bits div
returns-then-is_nan c = sym (nan-only _ (sym (nan_bits_is binary64 _) ∙ sym c.is_nan.ensures ∙ c.if-is_nan.true))

pub float_from_bits-result : goal.float_from_bits-result
float_from_bits-result c = fails (sym c.is_nan.ensures ∙ c.if-is_nan.false)
