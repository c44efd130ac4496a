-- `plan_writer::step::op_line` meets its contract: one arm for each kind of task.
use Rattle.plan_grammar.specs.Written.{op_line}
use Rattle.plan_writer.proofs.step.op_line.Goals as goal

pub returns-in-Take : goal.returns-in-Take
unfolding op_line
returns-in-Take c = rw c.in-Take.is c.numbers.ensures

pub returns-in-Sum : goal.returns-in-Sum
unfolding op_line
returns-in-Sum c = rw c.in-Sum.is c.numbers-in-Sum.ensures

pub returns-in-Diff : goal.returns-in-Diff
unfolding op_line
returns-in-Diff c = rw c.in-Diff.is c.numbers-in-Diff.ensures

pub returns-in-Scale : goal.returns-in-Scale
unfolding op_line
returns-in-Scale c = rw (c.in-Scale.is, ← c.pattern.ensures) c.numbers-in-Scale.ensures

pub returns-in-Limit : goal.returns-in-Limit
unfolding op_line
returns-in-Limit c = rw (c.in-Limit.is, ← c.pattern-in-Limit.ensures, ← c.pattern-in-Limit-2.ensures) c.numbers-in-Limit.ensures

pub returns-in-Wind : goal.returns-in-Wind
unfolding op_line
returns-in-Wind c = rw (c.in-Wind.is, ← c.pattern-in-Wind.ensures, ← c.pattern-in-Wind-2.ensures) c.numbers-in-Wind.ensures

pub returns-in-Cam : goal.returns-in-Cam
unfolding op_line
returns-in-Cam c = rw c.in-Cam.is c.numbers-in-Cam.ensures
