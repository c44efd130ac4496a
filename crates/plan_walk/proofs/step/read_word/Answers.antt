use Rattle.plan.specs.Known.{reads}
use Rattle.plan_walk.specs.Code.{all_words, read_word}
use Rattle.plan_walk.proofs.step.read_word.Goals as goal

pub returns-in-Take : goal.returns-in-Take
unfolding read_word all_words reads
returns-in-Take c = rw c.in-Take.is

pub returns-in-Sum : goal.returns-in-Sum
unfolding read_word all_words reads
returns-in-Sum c = rw (c.in-Sum.is, c.entry_or.ensures, c.entry_or-in-Sum.ensures)

pub returns-in-Diff : goal.returns-in-Diff
unfolding read_word all_words reads
returns-in-Diff c = rw (c.in-Diff.is, c.entry_or-in-Diff.ensures, c.entry_or-in-Diff-2.ensures)

pub returns-in-Scale : goal.returns-in-Scale
unfolding read_word all_words reads
returns-in-Scale c = rw (c.in-Scale.is, c.entry_or-in-Scale.ensures)

pub returns-in-Limit : goal.returns-in-Limit
unfolding read_word all_words reads
returns-in-Limit c = rw (c.in-Limit.is, c.entry_or-in-Limit.ensures)

pub returns-in-Wind : goal.returns-in-Wind
unfolding read_word all_words reads
returns-in-Wind c = rw (c.in-Wind.is, c.entry_or-in-Wind.ensures, c.entry_or-in-Wind-2.ensures)

pub returns-in-Cam : goal.returns-in-Cam
unfolding read_word all_words reads
returns-in-Cam c = rw (c.in-Cam.is, c.entry_or-in-Cam.ensures)
