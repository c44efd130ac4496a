-- What a result of the reading says of the text.
use Rattle.std.specs.Prelude.{Option, None, Some, Ok, Err, is_ok}
use Rattle.std.specs.Result.{result_unwrap_or, result_err}
use mathlib.Core.Path.{◌≡◌, refl, sym, ap}
use mathlib.Core.List.{List}
use Prim.Native.Nat.{ℕ}
use Rattle.array.proofs.TestLaws.{clash}
use Rattle.answer.specs.declared.Refusal.{Refusal}
use Rattle.answer.specs.Tests.{unless}
use Rattle.plan.specs.declared.Plan.{Plan}
use Rattle.plan.specs.Known.{period}
use Rattle.plan_grammar.specs.Meant.{plan_of}
use Rattle.plan_grammar.specs.Refused.{text_refusal}
use Rattle.plan_text.specs.declared.PlanRead.{PlanRead}
use Rattle.plan_text.specs.Answers.{read_answer}
use Rattle.plan_text.specs.Code.{plan_found}

pub unless-ok : {A : Type 0} (o : Option Refusal) (x : A) {y : A} → unless o x ≡ Ok y → (o ≡ None) × (y ≡ x)
unfolding unless
unless-ok None x e = (refl, ap (λ given. result_unwrap_or given x) (sym e))
unless-ok (Some q) x e = absurd (clash (ap is_ok e) refl)

pub unless-err : {A : Type 0} (o : Option Refusal) (x : A) {q : Refusal} → unless o x ≡ Err q → o ≡ Some q
unfolding unless
unless-err None x e = absurd (clash (ap is_ok (sym e)) refl)
unless-err (Some r) x e = ap (λ given. result_err given) e

module _ (s : List ℕ) where
  pub plan-given : {p : Plan} → read_answer s ≡ Ok p → (text_refusal s ≡ None) × (p ≡ plan_of s)
  unfolding read_answer
  plan-given e = unless-ok (text_refusal s) (plan_of s) e

  pub refusal-given : {q : Refusal} → read_answer s ≡ Err q → text_refusal s ≡ Some q
  unfolding read_answer
  refusal-given e = unless-err (text_refusal s) (plan_of s) e

  pub found-given : {x : PlanRead} → plan_found s ≡ Ok x → (text_refusal s ≡ None) × (x ≡ record { plan = plan_of s; period = period (plan_of s) })
  unfolding plan_found
  found-given e = unless-ok (text_refusal s) (record { plan = plan_of s; period = period (plan_of s) }) e

  pub none-found : {q : Refusal} → plan_found s ≡ Err q → text_refusal s ≡ Some q
  unfolding plan_found
  none-found e = unless-err (text_refusal s) (record { plan = plan_of s; period = period (plan_of s) }) e
