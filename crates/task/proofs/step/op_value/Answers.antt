-- `task::step::op_value` meets its contract: one arm for each kind of task.
use mathlib.Core.Path.{ap}
use Rattle.plan.specs.declared.Op.{Op}
use Rattle.plan.specs.Known.{reads}
use Rattle.plan.proofs.AcceptedLaws.{take_in, cell_in, cells_in}
use Rattle.task.specs.Task.{op_value}
use Rattle.task.proofs.step.op_value.Goals as goal

pub entry-requires : goal.entry-requires
entry-requires c = take_in _ _ _ _ c.requires.1 c.in-Take.is

pub entry-requires-in-Sum : goal.entry-requires-in-Sum
unfolding reads
entry-requires-in-Sum c =
    (cells_in _ _ _ _ c.requires.1 c.requires.0 (ap (λ (o : Op). reads o c.args.target) c.in-Sum.is)).0

pub entry-requires-in-Sum-2 : goal.entry-requires-in-Sum-2
unfolding reads
entry-requires-in-Sum-2 c =
    (cells_in _ _ _ _ c.requires.1 c.requires.0 (ap (λ (o : Op). reads o c.args.target) c.in-Sum.is)).1

pub entry-requires-in-Diff : goal.entry-requires-in-Diff
unfolding reads
entry-requires-in-Diff c =
    (cells_in _ _ _ _ c.requires.1 c.requires.0 (ap (λ (o : Op). reads o c.args.target) c.in-Diff.is)).0

pub entry-requires-in-Diff-2 : goal.entry-requires-in-Diff-2
unfolding reads
entry-requires-in-Diff-2 c =
    (cells_in _ _ _ _ c.requires.1 c.requires.0 (ap (λ (o : Op). reads o c.args.target) c.in-Diff.is)).1

pub entry-requires-in-Scale : goal.entry-requires-in-Scale
unfolding reads
entry-requires-in-Scale c =
    cell_in _ _ _ _ c.requires.1 c.requires.0 (ap (λ (o : Op). reads o c.args.target) c.in-Scale.is)

pub entry-requires-in-Limit : goal.entry-requires-in-Limit
unfolding reads
entry-requires-in-Limit c =
    cell_in _ _ _ _ c.requires.1 c.requires.0 (ap (λ (o : Op). reads o c.args.target) c.in-Limit.is)

pub entry-requires-in-Wind : goal.entry-requires-in-Wind
unfolding reads
entry-requires-in-Wind c =
    (cells_in _ _ _ _ c.requires.1 c.requires.0 (ap (λ (o : Op). reads o c.args.target) c.in-Wind.is)).1

pub entry-requires-in-Wind-2 : goal.entry-requires-in-Wind-2
unfolding reads
entry-requires-in-Wind-2 c =
    (cells_in _ _ _ _ c.requires.1 c.requires.0 (ap (λ (o : Op). reads o c.args.target) c.in-Wind.is)).0

pub entry-requires-in-Cam : goal.entry-requires-in-Cam
unfolding reads
entry-requires-in-Cam c =
    cell_in _ _ _ _ c.requires.1 c.requires.0 (ap (λ (o : Op). reads o c.args.target) c.in-Cam.is)

pub returns-in-Take : goal.returns-in-Take
unfolding op_value
returns-in-Take c = rw (c.in-Take.is, c.entry.ensures)

pub returns-in-Sum : goal.returns-in-Sum
unfolding op_value
returns-in-Sum c = rw (c.in-Sum.is, c.sum.ensures, c.entry-in-Sum.ensures, c.entry-in-Sum-2.ensures)

pub returns-in-Diff : goal.returns-in-Diff
unfolding op_value
returns-in-Diff c = rw (c.in-Diff.is, c.diff.ensures, c.entry-in-Diff.ensures, c.entry-in-Diff-2.ensures)

pub returns-in-Scale : goal.returns-in-Scale
unfolding op_value
returns-in-Scale c = rw (c.in-Scale.is, c.scale.ensures, c.entry-in-Scale.ensures)

pub returns-in-Limit : goal.returns-in-Limit
unfolding op_value
returns-in-Limit c = rw (c.in-Limit.is, c.limit.ensures, c.entry-in-Limit.ensures)

pub returns-in-Wind : goal.returns-in-Wind
unfolding op_value
returns-in-Wind c = rw (c.in-Wind.is, c.wind.ensures, c.entry-in-Wind.ensures, c.entry-in-Wind-2.ensures)

pub returns-in-Cam : goal.returns-in-Cam
unfolding op_value
returns-in-Cam c = rw (c.in-Cam.is, c.cam.ensures, c.entry-in-Cam.ensures)
