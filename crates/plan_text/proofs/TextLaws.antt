-- The round trips: an accepted text has one plan, an accepted plan one text.
use Rattle.std.specs.Prelude.{None, Ok}
use mathlib.Core.Path.{◌≡◌, sym, ap, ◌∙◌}
use mathlib.Core.Bool.{true}
use mathlib.Core.Logic.{◌↔◌}
use mathlib.Core.List.{List}
use Prim.Native.Nat.{ℕ}
use native.Mathlib.Omega.{arith}
use Rattle.array.proofs.TestLaws.{and_left, and_both}
use Rattle.answer.specs.Tests.{unless}
use Rattle.plan.specs.declared.Plan.{Plan}
use Rattle.plan.specs.Known.{period}
use Rattle.plan.specs.Accepted.{well_formed, accepted}
use Rattle.plan.proofs.AcceptedLaws.{period-of-accepted}
use Rattle.plan_grammar.specs.Written.{plan_text}
use Rattle.plan_grammar.specs.Meant.{plan_of}
use Rattle.plan_grammar.specs.Refused.{text_refusal}
use Rattle.plan_text.specs.Answers.{read_answer}
use Rattle.plan_grammar.proofs.RefusedLaws.{text-none, text-length-ok, text-lines-ok, text-period}
use Rattle.plan_grammar.proofs.AcceptedTextLaws.{text-well_formed, text-of-plan}
use Rattle.plan_grammar.proofs.WrittenTextLaws.{plan_text-length, plan_text-lines, plan-of-text}

-- ---- from a plan to its text and back

module _ (p : Plan) (a : accepted p ≡ true) where
  well : well_formed p ≡ true
  unfolding accepted
  well = and_left (well_formed p) _ a

  -- the text of an accepted plan is not refused
  pub accepted-read : text_refusal (plan_text p) ≡ None
  accepted-read =
      text-none (plan_text p) (plan_text-length p well) (plan_text-lines p well)
      (λ e. omega (arith, period-of-accepted p a, sym (ap period (plan-of-text p well)) ∙ e))

  -- and is read as the plan
  pub accepted-back : plan_of (plan_text p) ≡ p
  accepted-back = plan-of-text p well

  pub accepted-answer : read_answer (plan_text p) ≡ Ok p
  unfolding read_answer unless
  accepted-answer = rw (accepted-read, accepted-back)

-- ---- from a text to its plan and back

module _ (s : List ℕ) (e : text_refusal s ≡ None) where
  -- a text that is not refused has an accepted plan
  pub read-plan : accepted (plan_of s) ≡ true
  unfolding accepted
  read-plan = and_both (text-well_formed s (text-length-ok s e) (text-lines-ok s e)) (rw (text-period s e))

  -- and is that plan's text
  pub read_back : plan_text (plan_of s) ≡ s
  read_back = text-of-plan s (text-length-ok s e) (text-lines-ok s e)

  pub read-accepted : (accepted (plan_of s) ≡ true) × (plan_text (plan_of s) ≡ s)
  read-accepted = (read-plan, read_back)

-- ---- so the two correspond

-- 7 does not apply exactly where some text is read to the record
pub accepted-iff-read : (p : Plan) → (accepted p ≡ true) ↔ ((s : List ℕ) × (text_refusal s ≡ None) × (plan_of s ≡ p))
accepted-iff-read p = (λ a. (plan_text p, accepted-read p a, accepted-back p a), λ r. rw (← r.2) (read-plan r.0 r.1))

-- one plan for a text
pub plan_text-injective : (p q : Plan) → well_formed p ≡ true → well_formed q ≡ true → plan_text p ≡ plan_text q → p ≡ q
plan_text-injective p q v w e = sym (plan-of-text p v) ∙ ap plan_of e ∙ plan-of-text q w

pub text-of-accepted : (p : Plan) (s : List ℕ) → text_refusal s ≡ None → plan_of s ≡ p → s ≡ plan_text p
text-of-accepted p s e f = sym (read_back s e) ∙ ap plan_text f

-- one text for a plan
pub plan_of-injective : (s t : List ℕ) → text_refusal s ≡ None → text_refusal t ≡ None → plan_of s ≡ plan_of t → s ≡ t
plan_of-injective s t e f g = sym (read_back s e) ∙ ap plan_text g ∙ read_back t f
