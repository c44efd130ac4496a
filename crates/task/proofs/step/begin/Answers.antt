-- `task::step::begin` meets its contract: one way out for each case.
use borrow.Author.Tests.{eq-eqb, ne_eqb}
use Rattle.task.proofs.step.begin.Goals as goal

pub returns-then-g-last : goal.returns-then-g-last
returns-then-g-last c = rw (eq-eqb _ _ c.if-g-last.true)

pub returns-else-g-last : goal.returns-else-g-last
returns-else-g-last c = rw (ne_eqb _ _ c.if-g-last.false)
