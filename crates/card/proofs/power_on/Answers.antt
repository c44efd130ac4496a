-- `card::power_on` meets its contract: an answer for each way out.
use mathlib.Core.Path.{◌∙◌, sym}
use Rattle.answer.specs.Tests.{refused, unless, given}
use Rattle.plan_period.specs.Answers.{plan_tests}
use Rattle.answer.proofs.TestLaws.{handed-on}
use Rattle.plan_period.proofs.AnswerLaws.{accepted-of-period, call-refused}
use Rattle.card.specs.Card.{card_of, powered_card, card_power_on}
use Rattle.card.proofs.power_on.Goals as goal

pub returns-in_err-recovery_period : goal.returns-in_err-recovery_period
unfolding card_power_on plan_tests
returns-in_err-recovery_period c =
    handed-on c.from_residual.result c.from_residual.ensures.1 ∙ sym (call-refused c.args.plan (sym c.recovery_period.ensures ∙ c.in_err-recovery_period.was) _ _)

pub power_on-first-requires : goal.power_on-first-requires
power_on-first-requires c = accepted-of-period _ (sym c.recovery_period.ensures ∙ c.in_ok-recovery_period.was)

pub returns : goal.returns
unfolding card_power_on powered_card card_of plan_tests given unless refused
returns c = rw (accepted-of-period _ (sym c.recovery_period.ensures ∙ c.in_ok-recovery_period.was), c.power_on-first.ensures)
