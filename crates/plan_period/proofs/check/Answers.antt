-- `plan_period::check` meets its contract: a record is checked where its period is found.
use mathlib.Core.Path.{sym, ◌∙◌}
use Rattle.answer.proofs.TestLaws.{handed-on}
use Rattle.plan_period.proofs.AnswerLaws.{accepted-of-period, checked-done, checked-refused}
use Rattle.plan_period.proofs.check.Goals as goal

pub returns-in_err-recovery_period : goal.returns-in_err-recovery_period
returns-in_err-recovery_period c =
    handed-on c.from_residual.result c.from_residual.ensures.1
    ∙ sym (checked-refused c.args.plan (sym c.recovery_period.ensures ∙ c.in_err-recovery_period.was))

pub returns : goal.returns
returns c = sym (checked-done c.args.plan (accepted-of-period c.args.plan (sym c.recovery_period.ensures ∙ c.in_ok-recovery_period.was)))
