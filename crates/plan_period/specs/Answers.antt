-- What the calls on a plan record give.
use Rattle.std.specs.Prelude.{List, [], ◌∷◌, ℕ, zero, suc, Option, None, Some, Result}
use Rattle.answer.specs.declared.Refusal.{Refusal}
use Rattle.answer.specs.Tests.{Test, test, given, if_passed}
use Rattle.plan.specs.declared.Plan.{Plan}
use Rattle.plan.specs.Known.{period}
use Rattle.plan.specs.Accepted.{accepted}

-- "7: a plan record that no accepted text has"
unfoldable pub plan_tests : Plan → List Test
plan_tests p = test 7 (accepted p) ∷ []

unfoldable pub checked : Plan → Result (Unit {0}) Refusal
checked p = given (plan_tests p) tt

-- the recovery period of an accepted record
unfoldable pub period_found : Plan → Result ℕ Refusal
period_found p = given (plan_tests p) (period p)

-- and 0 for all others
unfoldable pub accepted_period : Plan → ℕ
accepted_period p = if_passed (plan_tests p) (period p) 0

-- a count that is 0 where there is none
abbrev pub if_any : ℕ → Option ℕ
if_any zero = None
if_any (suc r) = Some (suc r)
