-- `System::power_on` meets its contract: the record of an accepted plan, and a refusal for every other.
use mathlib.Core.Path.{sym, ap, ◌∙◌}
use mathlib.Core.List.{[]}
use Rattle.std.specs.Prelude.{Ok}
use Rattle.answer.proofs.TestLaws.{handed-on, given-later, given-none}
use Rattle.plan_period.specs.Answers.{plan_tests}
use Rattle.plan_period.proofs.AnswerLaws.{accepted-of-period, period-is, call-refused}
use Rattle.system.specs.System.{power_on, system_power_on_answer}
use Rattle.system.proofs.System.power_on.Goals as goal

pub returns-in_err-period : goal.returns-in_err-period
unfolding system_power_on_answer plan_tests
returns-in_err-period c =
    handed-on c.from_residual.result c.from_residual.ensures.1
    ∙ sym (call-refused c.args.plan (sym c.recovery_period.ensures ∙ c.in_err-period.was) [] (power_on c.args.plan))

pub started-requires : goal.started-requires
started-requires c = let found = sym c.recovery_period.ensures ∙ c.in_ok-period.was in (accepted-of-period c.args.plan found, period-is c.args.plan found)

pub returns : goal.returns
unfolding system_power_on_answer plan_tests
returns c =
    let p = c.args.plan in
    let yes = accepted-of-period p (sym c.recovery_period.ensures ∙ c.in_ok-period.was) in
    ap Ok c.started.ensures ∙ sym (given-later _ [] (power_on p) yes ∙ given-none (power_on p))
