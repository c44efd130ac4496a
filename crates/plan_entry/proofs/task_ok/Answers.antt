-- `plan_entry::task_ok` meets its contract: a target out of range, then the rest of the definition.
use mathlib.Core.Bool.{and-false, and-true}
use borrow.Author.Tests.{lt-ltb, le-ltb}
use Rattle.plan.specs.Accepted.{task_ok}
use Rattle.plan_entry.proofs.task_ok.Goals as goal

pub returns-then-cells-target : goal.returns-then-cells-target
unfolding task_ok
returns-then-cells-target c = simp (le-ltb _ _ c.if-cells-target.true, and-false)

pub returns : goal.returns
unfolding task_ok
returns c = rw (c.op_ok.ensures, lt-ltb _ _ c.if-cells-target.false, and-true)
