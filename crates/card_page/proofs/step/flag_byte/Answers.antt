use native.Mathlib.Omega.{arith}
use Rattle.card_page.specs.Page.{interrupt}
use Rattle.card_page.proofs.PageLaws.{named_small, flag-on, flag_off}
use Rattle.card_page.proofs.step.flag_byte.Goals as goal

pub overflow_add-result : goal.overflow_add-result
overflow_add-result c = omega (arith, c.named-kept.ensures, named_small c.args.state.flags)

pub returns-then-due-bit_0 : goal.returns-then-due-bit_0
unfolding interrupt
returns-then-due-bit_0 c = flag-on c.args.state c.named-kept.ensures (cc) c.if-due-bit_0.true

pub returns : goal.returns
unfolding interrupt
returns c = flag_off c.args.state c.named-kept.ensures (cc) c.if-due-bit_0.false
