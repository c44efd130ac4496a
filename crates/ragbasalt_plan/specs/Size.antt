-- A size that has no answer beside it.
use Rattle.std.specs.Prelude.{ℕ}
use Rattle.answer.specs.Tests.{if_passed}
use Rattle.plan.specs.declared.Plan.{Plan}
use Rattle.plan_period.specs.Answers.{plan_tests}

-- a size of an accepted plan; 0 for one that 7 refuses
unfoldable pub size_of : (Plan → ℕ) → Plan → ℕ
size_of size p = if_passed (plan_tests p) (size p) 0
