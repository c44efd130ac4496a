-- `node::power_on` meets its contract: the memory of an accepted plan, and a refusal for every other.
use mathlib.Core.Path.{sym, ap, ◌∙◌}
use mathlib.Core.List.{[]}
use Rattle.std.specs.Prelude.{Ok}
use Rattle.answer.proofs.TestLaws.{handed-on, given-later, given-none}
use Rattle.plan_period.specs.Answers.{plan_tests}
use Rattle.plan_period.proofs.AnswerLaws.{accepted-of-period, call-refused}
use Rattle.memory.specs.Node.{powered_on}
use Rattle.node.specs.Answers.{power_on_answer}
use Rattle.node.proofs.power_on.Goals as goal

pub returns-in_err-recovery_period : goal.returns-in_err-recovery_period
unfolding power_on_answer plan_tests
returns-in_err-recovery_period c =
    handed-on c.from_residual.result c.from_residual.ensures.1
    ∙ sym (call-refused c.args.plan (sym c.recovery_period.ensures ∙ c.in_err-recovery_period.was) [] (powered_on c.args.plan))

pub power_on-requires : goal.power_on-requires
power_on-requires c = accepted-of-period c.args.plan (sym c.recovery_period.ensures ∙ c.in_ok-recovery_period.was)

pub returns : goal.returns
unfolding power_on_answer plan_tests
returns c =
    let p = c.args.plan in
    let yes = accepted-of-period p (sym c.recovery_period.ensures ∙ c.in_ok-recovery_period.was) in
    ap Ok c.power_on.ensures ∙ sym (given-later _ [] (powered_on p) yes ∙ given-none (powered_on p))
