-- Request 2026-04: a text keeps its refusal, or that it is not refused, unless its header has 1 or 2 nodes.
use Rattle.std.specs.Prelude.{Option, None, Some}
use mathlib.Core.Path.{◌≡◌, refl, sym, ◌∙◌}
use mathlib.Core.Bool.{Bool, true, false}
use mathlib.Core.List.{List}
use Prim.Native.Nat.{ℕ, zero, suc, ◌-◌, ◌≤◌, ◌<◌}
use native.Mathlib.Omega.{arith}
use lib.Dec.{eqb, leb}
use lib.ListN.{length}
use borrow.Author.Tests.{leb-true, leb-false}
use Rattle.array.proofs.TestLaws.{split, and_right, and-false-right}
use Rattle.answer.specs.declared.Refusal.TheVariants.{Header}
use Rattle.plan.specs.Limits.{least_nodes}
use Rattle.plan.specs.Earlier.{least_before}
use Rattle.plan.proofs.EarlierLaws.{kept_test, header-now, header-few, header-before-many, header-kept}
use Rattle.plan_grammar.specs.Line.{line_count, numbers_at, line_at, kind_of, second, third, fourth, fifth, sixth, header_kind}
use Rattle.plan_grammar.specs.Refused.{length_ok, is_header, rules_of, form_or_rules, line_refusal, first_refusal, lines_refusal, text_refusal}
use Rattle.plan_grammar.specs.Earlier.{rules_by, form_or_rules_by, line_refusal_by, first_refusal_by, text_refusal_by, is_header_from, refusal_from, refusal_before, NotFew}
use Rattle.plan_grammar.proofs.LineLaws.{some-line}
use Rattle.plan_grammar.proofs.RefusedLaws.{no_answer}

-- ---- only the first line is tested for a header, and the refusals are those by a test that says of it what `is_header` does

module _ (header : List ℕ → Bool) (s : List ℕ) (same : (l : List ℕ) → numbers_at s 0 ≡ Some l → is_header l ≡ header l) where
  line-by : (i : ℕ) (o : Option (List ℕ)) → numbers_at s i ≡ o → form_or_rules (line_at s 0) i (line_at s (i - 1)) o ≡ form_or_rules_by header (line_at s 0) i (line_at s (i - 1)) o
  unfolding form_or_rules form_or_rules_by rules_of rules_by
  line-by i None e = refl
  line-by zero (Some l) e = rw (same l e)
  line-by (suc j) (Some l) e = refl

  first_by : (i : ℕ) → first_refusal s i ≡ first_refusal_by header s i
  unfolding first_refusal first_refusal_by line_refusal line_refusal_by
  first_by zero = refl
  first_by (suc i) = rw (first_by i, line-by i (numbers_at s i) refl)

  pub text-by : text_refusal s ≡ text_refusal_by header s
  unfolding text_refusal lines_refusal text_refusal_by
  text-by = rw (first_by (line_count s))

-- with the least number of now, the refusals are those of now
pub text-now : (s : List ℕ) → refusal_from least_nodes s ≡ text_refusal s
unfolding refusal_from is_header_from is_header
text-now s = sym (text-by (is_header_from least_nodes) s (λ l e. rw (header-now (second l) (third l) (fourth l) (fifth l) (sixth l) 0)))

-- ---- every text but those whose first line is now a header of fewer than 3 nodes

before-header : (l : List ℕ) → is_header_from least_before l ≡ true → least_before ≤ second l
unfolding is_header_from
before-header l e = header-before-many (second l) (third l) (fourth l) (fifth l) (sixth l) 0 (and_right (eqb (kind_of l) header_kind) _ e)

header-same : (l : List ℕ) → least_before ≤ second l → is_header l ≡ is_header_from least_before l
unfolding is_header is_header_from
header-same l many = rw (header-kept (second l) (third l) (fourth l) (fifth l) (sixth l) 0 (λ t. many))

-- it is answered as it was
pub text-kept : (s : List ℕ) → NotFew s → text_refusal s ≡ refusal_before s
unfolding refusal_from NotFew
text-kept s many =
    text-by (is_header_from least_before) s
    (λ l e. kept_test (is_header l) (is_header_from least_before l) (λ t. header-same l (many l e t)) (λ t. header-same l (before-header l t) ∙ t))

-- ---- those were refused with 3

module _ (s : List ℕ) (ok : length_ok (length s) ≡ true) (l : List ℕ) (e : numbers_at s 0 ≡ Some l) (few : second l < least_before) where
  few-not-header : is_header_from least_before l ≡ false
  unfolding is_header_from
  few-not-header = and-false-right (eqb (kind_of l) header_kind) (header-few (second l) (third l) (fourth l) (fifth l) (sixth l) 0 few)

  first-few : (i : ℕ) → first_refusal_by (is_header_from least_before) s (suc i) ≡ Some Header
  unfolding first_refusal_by line_refusal_by form_or_rules_by rules_by
  first-few zero = rw (e, few-not-header)
  first-few (suc i) = rw (first-few i)

  pub text-few : refusal_before s ≡ Some Header
  unfolding refusal_from text_refusal_by
  text-few = by (line_count s) refl (some-line (length s) ok)
    where
      by : (n : ℕ) → line_count s ≡ n → 0 < n → refusal_before s ≡ Some Header
      by zero q h = absurd (omega arith)
      by (suc i) q h = rw (ok, q, first-few i)

-- ---- a text accepted before is none of those, and is accepted

module _ (s : List ℕ) (e : refusal_before s ≡ None) where
  before-long : length_ok (length s) ≡ true
  unfolding refusal_from text_refusal_by
  before-long = split (length_ok (length s)) (λ t. t) (λ t. no_answer (rw t at e))

  pub text-before-many : NotFew s
  unfolding NotFew
  text-before-many l q t =
      split (leb least_before (second l)) (leb-true least_before (second l))
      (λ f. no_answer (sym (text-few s before-long l q (leb-false least_before (second l) f)) ∙ e))

  pub text-before : text_refusal s ≡ None
  text-before = text-kept s text-before-many ∙ e
