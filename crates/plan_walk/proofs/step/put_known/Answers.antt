use Rattle.plan_walk.specs.Code.{after_task}
use Rattle.plan_walk.proofs.step.put_known.Goals as goal

pub returns : goal.returns
unfolding after_task
returns c = rw c.read_word-known.ensures
