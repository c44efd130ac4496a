-- `ragbasalt_plan_check` meets its contract: a result for each way out.
use mathlib.Core.Path.{sym, ◌∙◌}
use Rattle.system_words.proofs.GivenLaws.{code-done, code-refused}
use Rattle.ragbasalt_plan.proofs.ragbasalt_plan_check.Goals as goal

pub returns-in-Ok : goal.returns-in-Ok
returns-in-Ok c = code-done _ (sym (rw c.plan-p.ensures at c.check.ensures) ∙ c.in-Ok.is)

pub returns-in-Err : goal.returns-in-Err
returns-in-Err c = c.code.ensures ∙ code-refused _ (sym (rw c.plan-p.ensures at c.check.ensures) ∙ c.in-Err.is)
