-- `plan_words::step::task` meets its contract: the six words of a task, read one by one.
use mathlib.Core.Path.{sym}
use Prim.Native.Nat.{◌+◌, ◌*◌}
use Rattle.plan_words.specs.Words.{tasks_at, task_size, task_in}
use Rattle.plan_words.proofs.WordsReadLaws.{from-six}
use Rattle.plan_words.proofs.step.task.Goals as goal

pub returns : goal.returns
unfolding task_in
returns c =
    sym (from-six c.args.words.now (tasks_at + task_size * c.args.k))
