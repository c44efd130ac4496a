-- `plan_entry::header_ok` meets its contract: the code is the definition.
use mathlib.Core.Path.{refl}
use Rattle.plan.specs.Accepted.{header_ok}
use Rattle.plan_entry.proofs.header_ok.Goals as goal

pub returns : goal.returns
unfolding header_ok
returns c = refl
