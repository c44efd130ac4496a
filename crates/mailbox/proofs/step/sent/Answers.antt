-- `mailbox::step::sent` meets its contract: one arm for each case of `cond`.
use Rattle.mailbox.proofs.step.sent.Goals as goal

pub returns-then-voted : goal.returns-then-voted
returns-then-voted c = rw c.if-voted.true

pub returns-else-voted : goal.returns-else-voted
returns-else-voted c = rw c.if-voted.false
