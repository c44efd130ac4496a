use mathlib.Core.Path.{sym, ◌∙◌}
use Rattle.pattern.proofs.PatternLaws.{tested, limit-low, limit-high, limit-own}
use Rattle.limit.proofs.limit.Goals as goal

pub returns-then-is_below-nan : goal.returns-then-is_below-nan
returns-then-is_below-nan c = c.pattern.ensures ∙ sym (limit-low _ _ _ (tested c.is_below.ensures c.is_nan-nan.ensures c.if-is_below-nan.true))

pub returns-then-is_above : goal.returns-then-is_above
returns-then-is_above c = c.pattern-then-is_above.ensures ∙ sym (limit-high _ _ _ (tested c.is_below.ensures c.is_nan-nan.ensures c.if-is_below-nan.false) (sym c.is_above.ensures ∙ c.if-is_above.true))

pub returns : goal.returns
returns c = sym (limit-own _ _ _ (tested c.is_below.ensures c.is_nan-nan.ensures c.if-is_below-nan.false) (sym c.is_above.ensures ∙ c.if-is_above.false))
