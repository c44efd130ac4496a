-- `plan_entry::op_ok` meets its contract: one arm for each kind of task.
use mathlib.Core.Bool.{and-true}
use Rattle.array.specs.Index.{all_in}
use Rattle.plan.specs.Known.{reads}
use Rattle.plan.specs.Accepted.{op_ok, constants_ok}
use Rattle.plan.proofs.EntryLaws.{one_in, two_in}
use Rattle.plan_entry.proofs.op_ok.Goals as goal

pub returns-in-Take : goal.returns-in-Take
unfolding op_ok constants_ok reads all_in
returns-in-Take c = rw c.in-Take.is

pub returns-in-Sum : goal.returns-in-Sum
unfolding op_ok constants_ok reads
returns-in-Sum c = rw (c.in-Sum.is, and-true, two_in)

pub returns-in-Diff : goal.returns-in-Diff
unfolding op_ok constants_ok reads
returns-in-Diff c = rw (c.in-Diff.is, and-true, two_in)

pub returns-in-Scale : goal.returns-in-Scale
unfolding op_ok constants_ok reads
returns-in-Scale c = rw (c.in-Scale.is, c.is_finite.ensures, one_in)

pub returns-in-Limit : goal.returns-in-Limit
unfolding op_ok constants_ok reads
returns-in-Limit c = rw (c.in-Limit.is, c.is_finite-in-Limit.ensures, c.is_finite-in-Limit-2.ensures, one_in)

pub returns-in-Wind : goal.returns-in-Wind
unfolding op_ok constants_ok reads
returns-in-Wind c = rw (c.in-Wind.is, c.is_finite-in-Wind.ensures, c.is_finite_unsigned.ensures, two_in)

pub returns-in-Cam : goal.returns-in-Cam
unfolding op_ok constants_ok reads
returns-in-Cam c = rw (c.in-Cam.is, and-true, one_in)
