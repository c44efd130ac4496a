use Rattle.plan_grammar.specs.Meant.{task_of}
use borrow.Author.Rules.{rules}
use Rattle.plan_line.proofs.task_of.Goals as goal

pub op_of-op-requires : goal.op_of-op-requires
op_of-op-requires c = search rules

pub returns : goal.returns
unfolding task_of
returns c = rw c.op_of-op.ensures
