-- `plan_text::step::store_initial` meets its contract: a cell's value is stored, and of another line nothing.
use native.Mathlib.Omega.{arith}
use mathlib.Core.Path.{sym, ◌∙◌}
use borrow.Author.Tests.{eqb-true}
use Rattle.plan_grammar.specs.Meant.{initial_with}
use Rattle.plan_text.proofs.step.store_initial.Goals as goal

pub offset_bounds-initial-at : goal.offset_bounds-initial-at
offset_bounds-initial-at c = omega (arith, c.requires (eqb-true _ _ (sym c.is.ensures ∙ c.if-is.true)))

pub bounds-initial-at : goal.bounds-initial-at
bounds-initial-at c = c.requires (eqb-true _ _ (sym c.is.ensures ∙ c.if-is.true))

pub returns-then-is : goal.returns-then-is
unfolding initial_with
returns-then-is c = rw (← c.is.ensures, c.if-is.true)

pub returns-else-is : goal.returns-else-is
unfolding initial_with
returns-else-is c = rw (← c.is.ensures, c.if-is.false)
