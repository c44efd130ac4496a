use mathlib.Core.Bool.{true, false}
use Rattle.card_page.specs.Page.{two_bits}
use Rattle.card_page.proofs.PageLaws.{two_bits-is}
use Rattle.card_page.proofs.step.two.Goals as goal

pub returns-then-first : goal.returns-then-first
unfolding two_bits
returns-then-first c = two_bits-is true true c.if-first.true c.if-second.true

pub returns-else-first : goal.returns-else-first
unfolding two_bits
returns-else-first c = two_bits-is false true c.if-first.false c.if-second.true

pub returns-then-first-2 : goal.returns-then-first-2
unfolding two_bits
returns-then-first-2 c = two_bits-is true false c.if-first-2.true c.if-second.false

pub returns-else-first-2 : goal.returns-else-first-2
unfolding two_bits
returns-else-first-2 c = two_bits-is false false c.if-first-2.false c.if-second.false
