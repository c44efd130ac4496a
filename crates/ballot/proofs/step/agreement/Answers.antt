-- `ballot::step::agreement` meets its contract: one way out for each case.
use Rattle.ballot.specs.Majority.{backing}
use Rattle.ballot.proofs.step.agreement.Goals as goal

pub returns-in_default : goal.returns-in_default
unfolding backing
returns-in_default c = rw c.in_default.is

pub returns : goal.returns
unfolding backing
returns c = rw c.in-Some.is c.holders.ensures
