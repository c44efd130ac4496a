-- `plan_line::in_range` meets its contract: one arm for each kind of line.
use Rattle.std.proofs.Common.{inl, inr}
use borrow.Author.Tests.{ne_eqb}
use Rattle.plan_line.specs.declared.Kind.TheVariants.{Cell, Vote}
use Rattle.plan_line.proofs.KindLaws.{no-task, of-task}
use Rattle.plan_grammar.specs.Line.{is_task}
use Rattle.plan_grammar.specs.Refused.{in_range}
use Rattle.plan_line.proofs.in_range.Goals as goal

pub returns-in_default : goal.returns-in_default
unfolding in_range is_task
returns-in_default c = rw (ne_eqb _ _ (c.in_default.ensures Cell), no-task _ c.in_default.ensures, ne_eqb _ _ (c.in_default.ensures Vote))

pub returns-in-Cell : goal.returns-in-Cell
unfolding in_range is_task
returns-in-Cell c = rw (c.in-Some.ensures, c.in-Cell.is)

pub returns-in-Take : goal.returns-in-Take
unfolding in_range is_task
returns-in-Take c = let t = of-task _ c.in-Take.is in rw (c.task_ok.ensures, c.task_of.ensures, c.task_zeros.ensures, c.in-Some.ensures, t.0, t.1)

pub returns-in-Vote : goal.returns-in-Vote
unfolding in_range is_task
returns-in-Vote c = rw (c.in-Some.ensures, c.in-Vote.is)

pub returns-in-Header : goal.returns-in-Header
unfolding in_range is_task
returns-in-Header c = elim c.in-Header.is [ inl e ↦ rw (c.in-Some.ensures, e) | inr e ↦ rw (c.in-Some.ensures, e) ]
