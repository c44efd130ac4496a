use mathlib.Core.Path.{sym, ◌∙◌}
use Rattle.pattern.proofs.ConstantLaws.{finite-no-nan, finite-of-unsigned, unsigned-below}
use borrow.Author.Rules.{rules}
use Rattle.pattern.proofs.is_finite_unsigned.Goals as goal

pub float_to_bits-result : goal.float_to_bits-result
float_to_bits-result c = finite-no-nan _ (sym c.is_finite.ensures ∙ c.if-is_finite.true)

pub returns-then-is_finite : goal.returns-then-is_finite
returns-then-is_finite c = unsigned-below _ (search rules) (sym c.is_finite.ensures ∙ c.if-is_finite.true)

pub returns-else-is_finite : goal.returns-else-is_finite
returns-else-is_finite c = finite-of-unsigned _ (sym c.is_finite.ensures ∙ c.if-is_finite.false)
