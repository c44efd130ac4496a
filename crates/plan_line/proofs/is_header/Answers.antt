use Rattle.plan_grammar.specs.Refused.{is_header}
use Rattle.plan_line.proofs.is_header.Goals as goal

pub returns : goal.returns
unfolding is_header
returns c = rw (c.is.ensures, c.header_ok.ensures)
