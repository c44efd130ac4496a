use Rattle.plan_grammar.specs.Refused.{smaller_vote}
use Rattle.plan_line.proofs.smaller_vote.Goals as goal

pub returns : goal.returns
unfolding smaller_vote
returns c = rw c.is.ensures
