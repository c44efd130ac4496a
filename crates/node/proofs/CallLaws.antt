-- Laws for the proofs of the calls: what is given, and what becomes of the thing that is lent, by the way a call goes.
use Rattle.std.specs.Prelude.{Result, Ok, Err}
use mathlib.Core.Path.{◌≡◌, sym, ◌∙◌}
use mathlib.Core.Bool.{true}
use Prim.Native.Nat.{ℕ}
use borrow.Author.Tests.{eq-eqb, ne_eqb}
use Rattle.answer.specs.declared.Refusal.{Refusal}
use Rattle.answer.specs.declared.Refusal.TheVariants.{WrongLength}
use Rattle.answer.specs.Tests.{passed, refused, unless, given, if_passed}
use Rattle.plan.specs.declared.Plan.{Plan}
use Rattle.plan.specs.Accepted.{accepted}
use Rattle.plan_period.specs.Answers.{period_found}
use Rattle.plan_period.proofs.AnswerLaws.{call-refused, call-kept}
use Rattle.node.specs.Answers.{length_tests}

module _ {V A : Type 0} (p : Plan) (has wanted : ℕ) (value : V) (new old : A) where
  pub plan-refused :
      {r : Refusal} → period_found p ≡ Err r → {o : Result V Refusal} → o ≡ Err r →
      (o ≡ given (length_tests p has wanted) value) × (old ≡ if_passed (length_tests p has wanted) new old)
  unfolding length_tests
  plan-refused e h = (h ∙ sym (call-refused p e _ value), sym (call-kept p e _ new old))

  pub length-refused :
      accepted p ≡ true → (has ≡ wanted → ⊥) →
      (Err WrongLength ≡ given (length_tests p has wanted) value) × (old ≡ if_passed (length_tests p has wanted) new old)
  unfolding length_tests given unless refused passed if_passed
  length-refused e l = (rw (e, ne_eqb has wanted l), rw (e, ne_eqb has wanted l))

  pub call-done :
      {v : V} {r : A} → accepted p ≡ true → has ≡ wanted → v ≡ value → r ≡ new →
      (Ok v ≡ given (length_tests p has wanted) value) × (r ≡ if_passed (length_tests p has wanted) new old)
  unfolding length_tests given unless refused passed if_passed
  call-done e l f h = (rw (e, eq-eqb has wanted l, f), rw (e, eq-eqb has wanted l) h)
