-- "6: no R exists. Line 0, after all of 1 to 5."
use Rattle.std.specs.Prelude.{Option, None, Some}
use mathlib.Core.Path.{◌≡◌, refl, sym, ◌∙◌}
use mathlib.Core.Bool.{true, false}
use mathlib.Core.Logic.{◌↔◌}
use mathlib.Core.List.{List}
use Prim.Native.Nat.{ℕ}
use native.Mathlib.Omega.{arith}
use lib.Dec.{eqb}
use lib.ListN.{length}
use borrow.Author.Tests.{eqb-true, eqb-false}
use Rattle.array.proofs.TestLaws.{split, clash}
use Rattle.answer.specs.declared.Refusal.{Refusal}
use Rattle.answer.specs.declared.Refusal.TheVariants.{Unrecoverable}
use Rattle.plan.specs.Known.{all_known, period}
use Rattle.plan.proofs.AcceptedLaws.{shape_of}
use Rattle.plan.proofs.PeriodLaws.{period-reached, period-least}
use Rattle.plan_grammar.specs.Meant.{plan_of}
use Rattle.plan_grammar.specs.Refused.{length_ok, lines_refusal, text_refusal}
use Rattle.plan_grammar.proofs.RefusedLaws.{text-wrong-length, text-refused, text-unrecoverable, text-none, lines-recoverable}
use Rattle.plan_grammar.proofs.AcceptedTextLaws.{text-well_formed}

module _ (s : List ℕ) (ok : length_ok (length s) ≡ true) (lines : lines_refusal s ≡ None) where
  no-period : period (plan_of s) ≡ 0 → (h : ℕ) → all_known (plan_of s) h ≡ false
  no-period z h =
      split (all_known (plan_of s) h)
      (λ a. absurd (omega (arith, (period-least (plan_of s) (shape_of (plan_of s) (text-well_formed s ok lines)) h a).0)))
      (λ a. a)

  period-zero : ((h : ℕ) → all_known (plan_of s) h ≡ false) → period (plan_of s) ≡ 0
  period-zero f =
      split (eqb (period (plan_of s)) 0) (eqb-true (period (plan_of s)) 0)
      (λ t. absurd (clash (period-reached (plan_of s) (omega (arith, eqb-false (period (plan_of s)) 0 t))) (f (period (plan_of s)))))

module _ (s : List ℕ) (e : text_refusal s ≡ Some Unrecoverable) where
  six-length : length_ok (length s) ≡ true
  six-length =
      split (length_ok (length s)) (λ t. t)
      (λ t. let f = text-wrong-length s t in absurd (let z : ◌≡◌ {A = ℕ} 0 1 = cc in omega arith))

  six-lines : lines_refusal s ≡ None
  six-lines = go (lines_refusal s) refl
    where
      go : (o : Option Refusal) → lines_refusal s ≡ o → o ≡ None
      go None f = refl
      go (Some a) f = absurd (lines-recoverable s (f ∙ sym (text-refused s a six-length f) ∙ e))

  six-period : period (plan_of s) ≡ 0
  six-period =
      split (eqb (period (plan_of s)) 0) (eqb-true (period (plan_of s)) 0)
      (λ t. let f = text-none s six-length six-lines (eqb-false (period (plan_of s)) 0 t) in absurd (let z : ◌≡◌ {A = ℕ} 0 1 = cc in omega arith))

-- 6 exactly where 1 does not apply, nor 2 to 5, and after no count of good frames all cells are known
pub unrecoverable-iff :
    (s : List ℕ) →
    (text_refusal s ≡ Some Unrecoverable)
    ↔ ((length_ok (length s) ≡ true) × (lines_refusal s ≡ None) × ((h : ℕ) → all_known (plan_of s) h ≡ false))
unrecoverable-iff s = (
  λ e. (six-length s e, six-lines s e, no-period s (six-length s e) (six-lines s e) (six-period s e)),
  λ r. text-unrecoverable s r.0 r.1 (period-zero s r.0 r.1 r.2),
)
