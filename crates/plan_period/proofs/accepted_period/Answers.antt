-- `plan_period::accepted_period` meets its contract.
use mathlib.Core.Path.{ap, ◌∙◌}
use Rattle.std.specs.Result.{result_unwrap_or}
use Rattle.plan_period.proofs.AnswerLaws.{accepted-period}
use Rattle.plan_period.proofs.accepted_period.Goals as goal

pub returns : goal.returns
returns c = c.unwrap_or.ensures ∙ ap (λ o. result_unwrap_or o 0) c.recovery_period.ensures ∙ accepted-period c.args.plan
