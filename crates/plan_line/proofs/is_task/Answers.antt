use Rattle.plan_grammar.specs.Line.{is_task}
use Rattle.plan_line.proofs.is_task.Goals as goal

pub returns : goal.returns
unfolding is_task
returns c = rw (c.number.ensures, c.number-2.ensures)
