-- `plan_text::step::store_actuator` meets its contract: an actuator's cell is stored, and of another line nothing.
use native.Mathlib.Omega.{arith}
use mathlib.Core.Path.{sym, ◌∙◌}
use borrow.Author.Tests.{eqb-true}
use Rattle.plan_grammar.specs.Meant.{actuators_with}
use Rattle.plan_text.proofs.step.store_actuator.Goals as goal

pub offset_bounds-table-at : goal.offset_bounds-table-at
offset_bounds-table-at c = omega (arith, c.requires (eqb-true _ _ (sym c.is.ensures ∙ c.if-is.true)))

pub bounds-table-at : goal.bounds-table-at
bounds-table-at c = c.requires (eqb-true _ _ (sym c.is.ensures ∙ c.if-is.true))

pub returns-then-is : goal.returns-then-is
unfolding actuators_with
returns-then-is c = rw (← c.is.ensures, c.if-is.true)

pub returns-else-is : goal.returns-else-is
unfolding actuators_with
returns-else-is c = rw (← c.is.ensures, c.if-is.false)
