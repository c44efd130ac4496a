-- `plan_line::in_order` meets its contract: one arm for each kind of line.
use Rattle.std.proofs.Common.{sym}
use mathlib.Core.Bool.{and-false}
use borrow.Author.Tests.{ne_eqb}
use Rattle.plan_line.specs.declared.Kind.TheVariants.{Cell, Vote, Actuator}
use Rattle.plan_line.proofs.KindLaws.{no-task, of-task}
use Rattle.plan_grammar.specs.Line.{is_task}
use Rattle.plan_grammar.specs.Refused.{in_order}
use Rattle.plan_line.proofs.in_order.Goals as goal

pub returns-in_default : goal.returns-in_default
unfolding in_order is_task
returns-in_default c = rw (ne_eqb _ _ (c.in_default.ensures Cell), no-task _ c.in_default.ensures, ne_eqb _ _ (c.in_default.ensures Vote), ne_eqb _ _ (c.in_default.ensures Actuator)) (sym (and-false _))

pub returns-in-Cell : goal.returns-in-Cell
unfolding in_order is_task
returns-in-Cell c = rw (c.in-Some.ensures, c.in-Cell.is)

pub returns-in-Take : goal.returns-in-Take
unfolding in_order is_task
returns-in-Take c = let t = of-task _ c.in-Take.is in rw (c.task_in_order.ensures, c.in-Some.ensures, t.0, t.1)

pub returns-in-Vote : goal.returns-in-Vote
unfolding in_order is_task
returns-in-Vote c = rw (c.vote_in_order.ensures, c.in-Some.ensures, c.in-Vote.is)

pub returns-in-Actuator : goal.returns-in-Actuator
unfolding in_order is_task
returns-in-Actuator c = rw (c.actuator_in_order.ensures, c.in-Some.ensures, c.in-Actuator.is)

pub returns-in-Header : goal.returns-in-Header
unfolding in_order is_task
returns-in-Header c = rw (c.in-Some.ensures, c.in-Header.is) (sym (and-false _))
