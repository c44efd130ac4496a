-- `plan_entry::is_unused` meets its contract: the code is the definition.
use Rattle.plan.specs.Accepted.{is_unused}
use Rattle.plan_entry.proofs.is_unused.Goals as goal

pub returns : goal.returns
unfolding is_unused
returns c = rw c.is_zero_take.ensures
