use Rattle.plan_grammar.specs.Refused.{task_in_order}
use borrow.Author.Rules.{rules}
use Rattle.plan_line.proofs.task_in_order.Goals as goal

pub room_for_task-requires : goal.room_for_task-requires
room_for_task-requires c = search rules

pub after_cells-requires : goal.after_cells-requires
after_cells-requires c = search rules

pub is_task-requires : goal.is_task-requires
is_task-requires c = search rules

pub returns : goal.returns
unfolding task_in_order
returns c = rw (c.room_for_task.ensures, c.after_cells.ensures, c.is_task.ensures)
