-- `plan_form::actuator_ok` meets its contract: one arm for each case of `cond`.
use Rattle.plan_form.proofs.actuator_ok.Goals as goal

pub returns-then-used : goal.returns-then-used
returns-then-used c = rw c.if-used.true

pub returns : goal.returns
returns c = rw c.if-used.false
