use borrow.Author.Tests.{eq-eqb, ne_eqb}
use Rattle.plan_grammar.specs.Refused.{actuator_in_order}
use Rattle.plan_line.proofs.actuator_in_order.Goals as goal

pub returns-then-number-eq0 : goal.returns-then-number-eq0
unfolding actuator_in_order
returns-then-number-eq0 c = rw (eq-eqb _ _ c.if-number-eq0.true, c.after_cells.ensures, c.is_task.ensures, c.is.ensures)

pub returns : goal.returns
unfolding actuator_in_order
returns c = rw (ne_eqb _ _ c.if-number-eq0.false, c.is-2.ensures, c.follows.ensures)
