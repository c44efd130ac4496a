use Rattle.card_page.specs.Page.{with_cleared}
use Rattle.card_page.proofs.PageLaws.{mask-set, written-mask, written-clear}
use Rattle.card_page.proofs.step.write.Goals as goal

pub returns-then-at-eq-MASK : goal.returns-then-at-eq-MASK
returns-then-at-eq-MASK c = written-mask c.args.state c.args.value c.if-at-eq-MASK.true (mask-set c.args.state c.args.value c.counted.ensures c.named.ensures)

pub returns : goal.returns
unfolding with_cleared
returns c = written-clear c.args.state c.args.value c.if-at-eq-MASK.false (cc)
