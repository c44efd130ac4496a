-- `plan_entry::entry_ok` meets its contract: one arm for each case of `cond`.
use Rattle.plan_entry.proofs.entry_ok.Goals as goal

pub returns-then-used : goal.returns-then-used
returns-then-used c = rw (c.if-used.true, c.task_ok.ensures)

pub returns : goal.returns
returns c = rw (c.if-used.false, c.is_unused.ensures)
