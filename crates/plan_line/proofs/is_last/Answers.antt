use Rattle.plan_grammar.specs.Refused.{is_last}
use Rattle.plan_line.proofs.is_last.Goals as goal

pub returns : goal.returns
unfolding is_last
returns c = rw (c.is.ensures, c.follows.ensures)
