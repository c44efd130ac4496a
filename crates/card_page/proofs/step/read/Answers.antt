use mathlib.Core.Path.{◌∙◌}
use Rattle.card_page.proofs.PageLaws.{page-at, page-high, page-low, page-phase, page-flags, page-mask, page-rest}
use Rattle.card_page.proofs.step.read.Goals as goal

pub returns-then-at-eq0 : goal.returns-then-at-eq0
returns-then-at-eq0 c = page-at _ 0 c.if-at-eq0.true (page-high _)

pub returns-then-at-eq1 : goal.returns-then-at-eq1
returns-then-at-eq1 c = page-at _ 1 c.if-at-eq1.true (page-low _)

pub returns-then-at-eq2 : goal.returns-then-at-eq2
returns-then-at-eq2 c = page-at _ 2 c.if-at-eq2.true (c.number.ensures ∙ c.phase.ensures ∙ page-phase _)

pub returns-then-at-eq3 : goal.returns-then-at-eq3
returns-then-at-eq3 c = page-at _ 3 c.if-at-eq3.true (c.flag_byte.ensures ∙ page-flags _)

pub returns-then-at-eq-MASK : goal.returns-then-at-eq-MASK
returns-then-at-eq-MASK c = page-at _ 4 c.if-at-eq-MASK.true (c.named.ensures ∙ page-mask _)

pub returns : goal.returns
returns c = page-rest c.args.state c.args.at c.if-at-eq0.false c.if-at-eq1.false c.if-at-eq2.false c.if-at-eq3.false c.if-at-eq-MASK.false
