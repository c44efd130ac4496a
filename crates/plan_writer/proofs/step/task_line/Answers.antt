-- `plan_writer::step::task_line` meets its contract.
use Rattle.plan_grammar.specs.Written.{task_line}
use Rattle.plan_writer.proofs.step.task_line.Goals as goal

pub returns : goal.returns
unfolding task_line
returns c = c.op_line.ensures
