use Rattle.plan_grammar.specs.Refused.{vote_in_order}
use borrow.Author.Rules.{rules}
use Rattle.plan_line.proofs.vote_in_order.Goals as goal

pub after_cells-requires : goal.after_cells-requires
after_cells-requires c = search rules

pub is_task-requires : goal.is_task-requires
is_task-requires c = search rules

pub smaller_vote-requires : goal.smaller_vote-requires
smaller_vote-requires c = search rules

pub returns : goal.returns
unfolding vote_in_order
returns c = rw (c.after_cells.ensures, c.is_task.ensures, c.smaller_vote.ensures)
