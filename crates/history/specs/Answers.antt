-- What the call gives.
use mathlib.Core.List.{List, [], ◌∷◌, ◌++◌, flatten}
use Rattle.std.specs.Prelude.{ℕ, ◌*◌, leb, length, drop, Result}
use Rattle.answer.specs.declared.Refusal.{Refusal}
use Rattle.answer.specs.Tests.{Test, test, given, if_passed}
use Rattle.plan.specs.declared.Plan.{Plan}
use Rattle.plan.specs.Known.{period}
use Rattle.plan.specs.Accepted.{accepted}
use Rattle.history_masks.specs.Histories.{histories}
use Rattle.history_masks.specs.Limits.{limits_ok}

unfoldable pub plan_histories : Plan → ℕ → List (List ℕ)
plan_histories p k = histories p.nodes (period p) k

-- 7; "11, if the node count or length is outside these limits, after 7 and before 8"; "a short buffer is refusal 8": one of fewer bytes than the histories have masks
unfoldable pub histories_tests : Plan → ℕ → ℕ → List Test
histories_tests p k room =
    test 7 (accepted p) ∷ test 11 (limits_ok p.nodes k) ∷ test 8 (leb (length (plan_histories p k) * k) room) ∷ []

-- "their count is given"
unfoldable pub histories_answer : Plan → ℕ → ℕ → Result ℕ Refusal
histories_answer p k room = given (histories_tests p k room) (length (plan_histories p k))

-- "They fill the front of a lent buffer, one byte a mask, the rest unchanged"
unfoldable pub histories_place : Plan → ℕ → List ℕ → List ℕ
histories_place p k out =
    if_passed (histories_tests p k (length out)) (flatten (plan_histories p k) ++ drop (length (plan_histories p k) * k) out) out
