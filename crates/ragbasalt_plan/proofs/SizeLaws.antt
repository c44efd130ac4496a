-- Laws of a size: 0 exactly where 7 refuses the plan.
use Rattle.std.specs.Prelude.{Err}
use mathlib.Core.Path.{◌≡◌}
use mathlib.Core.Bool.{true, false}
use Prim.Native.Nat.{ℕ}
use Rattle.answer.specs.declared.Refusal.{Refusal}
use Rattle.answer.specs.Tests.{passed, if_passed}
use Rattle.plan.specs.declared.Plan.{Plan}
use Rattle.plan.specs.Accepted.{accepted}
use Rattle.plan_period.specs.Answers.{plan_tests, period_found}
use Rattle.plan_period.proofs.AnswerLaws.{unaccepted}
use Rattle.ragbasalt_plan.specs.Size.{size_of}

module _ (size : Plan → ℕ) {p q : Plan} (is : p ≡ q) where
  pub size_none : {r : Refusal} → period_found p ≡ Err r → 0 ≡ size_of size q
  unfolding size_of plan_tests if_passed passed
  size_none e = let u : accepted q ≡ false = rw is at (unaccepted p e).0 in rw u

  pub size-given : accepted p ≡ true → {n : ℕ} → n ≡ size p → n ≡ size_of size q
  unfolding size_of plan_tests if_passed passed
  size-given t e = let u : accepted q ≡ true = rw is at t in rw u (rw is at e)
