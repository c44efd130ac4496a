-- `task::step::run_task` meets its contract: the value is stored in the target.
use Rattle.task.proofs.step.run_task.Goals as goal

pub returns : goal.returns
returns c = rw c.op_value-v.ensures
