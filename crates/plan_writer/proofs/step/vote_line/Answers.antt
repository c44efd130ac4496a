-- `plan_writer::step::vote_line` meets its contract: the code is the definition.
use Rattle.plan_grammar.specs.Written.{vote_line}
use Rattle.plan_writer.proofs.step.vote_line.Goals as goal

pub returns : goal.returns
unfolding vote_line
returns c = rw (c.numbers.ensures, c.vote_frame-frame.ensures, c.vote_cell-cell.ensures)
