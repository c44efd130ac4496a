-- Request 2026-04: "Headers with 1 or 2 nodes were refused with 3 and are now accepted; plans accepted before keep every answer". The refusals of `Refused` with any test
-- of the first line in place of `is_header`, and so with any least number of nodes: with document 01's own, 3, they are those before the request. No contract cites these; the laws
-- are in EarlierLaws.
use Rattle.std.specs.Prelude.{◌≡◌, Bool, true, cond, ◌&&◌, List, ℕ, zero, suc, ◌+◌, ◌-◌, ◌≤◌, eqb, length, Option, None, Some}
use Rattle.answer.specs.declared.Refusal.{Refusal}
use Rattle.answer.specs.declared.Refusal.TheVariants.{TextLength, Malformed, Header, OutOfOrder, OutOfRange}
use Rattle.plan.specs.Earlier.{least_before, header_from}
use Rattle.plan_grammar.specs.Line.{line_count, numbers_at, line_at, kind_of, second, third, fourth, fifth, sixth, header_kind}
use Rattle.plan_grammar.specs.Refused.{length_ok, is_header, in_order, in_range, or_refusal, end_refusal, period_refusal}

module _ (header : List ℕ → Bool) where
  unfoldable pub rules_by : List ℕ → ℕ → List ℕ → List ℕ → Option Refusal
  rules_by h zero prev l = cond (header l) None (Some Header)
  rules_by h (suc j) prev l =
      cond (in_order h j prev l) (cond (in_range h l) None (Some (OutOfRange (suc j + 1)))) (Some (OutOfOrder (suc j + 1)))

  unfoldable pub form_or_rules_by : List ℕ → ℕ → List ℕ → Option (List ℕ) → Option Refusal
  form_or_rules_by h i prev None = Some (Malformed (i + 1))
  form_or_rules_by h i prev (Some l) = rules_by h i prev l

  unfoldable pub line_refusal_by : List ℕ → ℕ → Option Refusal
  line_refusal_by s i = form_or_rules_by (line_at s 0) i (line_at s (i - 1)) (numbers_at s i)

  unfoldable pub first_refusal_by : List ℕ → ℕ → Option Refusal
  first_refusal_by s zero = None
  first_refusal_by s (suc i) = or_refusal (first_refusal_by s i) (line_refusal_by s i)

  unfoldable pub text_refusal_by : List ℕ → Option Refusal
  text_refusal_by s =
      cond (length_ok (length s)) (or_refusal (or_refusal (first_refusal_by s (line_count s)) (end_refusal s)) (period_refusal s)) (Some TextLength)

-- ---- with any least number of nodes

unfoldable pub is_header_from : ℕ → List ℕ → Bool
is_header_from least l = eqb (kind_of l) header_kind && header_from least (second l) (third l) (fourth l) (fifth l) (sixth l) 0

unfoldable pub refusal_from : ℕ → List ℕ → Option Refusal
refusal_from least s = text_refusal_by (is_header_from least) s

-- what refused a text before: document 01's "nodes n, 3–7"
abbrev pub refusal_before : List ℕ → Option Refusal
refusal_before s = refusal_from least_before s

-- its first line is not a header of fewer nodes that is accepted now
unfoldable pub NotFew : List ℕ → Type 0
NotFew s = (l : List ℕ) → numbers_at s 0 ≡ Some l → is_header l ≡ true → least_before ≤ second l
