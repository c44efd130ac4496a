-- What the reader's tests on one line say of the definitions.
use Rattle.std.specs.Prelude.{Option, None, Some}
use mathlib.Core.Path.{◌≡◌, refl, sym, ◌∙◌}
use mathlib.Core.Bool.{cond, ◌&&◌}
use mathlib.Core.List.{List, [], ◌∷◌}
use Prim.Native.Nat.{ℕ}
use lib.Dec.{eqb}
use lib.ListN.{length, get_or}
use lib.Seq.{slice}
use borrow.Author.Tests.{eq-eqb, ne_eqb}
use Rattle.column.specs.Column.{number_shown}
use Rattle.column.specs.Row.{and_then, numbers_from, numbers_shown}
use Rattle.plan_grammar.specs.Line.{widths}

-- ---- a line's columns

and_none : (x : Option ℕ) → and_then x None ≡ None
and_none None = refl
and_none (Some v) = refl

module _ (s : List ℕ) where
  columns :
      numbers_shown widths s
      ≡ and_then (number_shown (slice 0 4 s)) (and_then (number_shown (slice 4 8 s)) (and_then (number_shown (slice 8 12 s)) (and_then (number_shown (slice 12 16 s))
      (and_then (number_shown (slice 16 36 s)) (and_then (number_shown (slice 36 56 s)) (cond (eqb (length s) 57 && eqb (get_or s 56 0) 10) (Some []) None))))))
  unfolding numbers_shown numbers_from
  columns = refl

  -- a column that shows nothing
  pub bad-1 : None ≡ number_shown (slice 0 4 s) → None ≡ numbers_shown widths s
  bad-1 e = sym (columns ∙ simp (sym e))

  pub bad-2 : None ≡ number_shown (slice 4 8 s) → None ≡ numbers_shown widths s
  bad-2 e = sym (columns ∙ simp (sym e, and_none))

  pub bad-3 : None ≡ number_shown (slice 8 12 s) → None ≡ numbers_shown widths s
  bad-3 e = sym (columns ∙ simp (sym e, and_none))

  pub bad-4 : None ≡ number_shown (slice 12 16 s) → None ≡ numbers_shown widths s
  bad-4 e = sym (columns ∙ simp (sym e, and_none))

  pub bad-5 : None ≡ number_shown (slice 16 36 s) → None ≡ numbers_shown widths s
  bad-5 e = sym (columns ∙ simp (sym e, and_none))

  pub bad-6 : None ≡ number_shown (slice 36 56 s) → None ≡ numbers_shown widths s
  bad-6 e = sym (columns ∙ simp (sym e, and_none))

  pub bad-length : (length s ≡ 57 → ⊥) → None ≡ numbers_shown widths s
  bad-length n = sym (columns ∙ simp (ne_eqb (length s) 57 n, and_none))

  pub bad-end : length s ≡ 57 → (get_or s 56 0 ≡ 10 → ⊥) → None ≡ numbers_shown widths s
  bad-end l n = sym (columns ∙ simp (eq-eqb (length s) 57 l, ne_eqb (get_or s 56 0) 10 n, and_none))

  pub whole-line :
      length s ≡ 57 →
      get_or s 56 0 ≡ 10 →
      {a b c d e f : ℕ} →
      Some a ≡ number_shown (slice 0 4 s) →
      Some b ≡ number_shown (slice 4 8 s) →
      Some c ≡ number_shown (slice 8 12 s) →
      Some d ≡ number_shown (slice 12 16 s) →
      Some e ≡ number_shown (slice 16 36 s) →
      Some f ≡ number_shown (slice 36 56 s) →
      Some (a ∷ b ∷ c ∷ d ∷ e ∷ f ∷ []) ≡ numbers_shown widths s
  whole-line l n p₁ p₂ p₃ p₄ p₅ p₆ = sym (columns ∙ rw (← p₁, ← p₂, ← p₃, ← p₄, ← p₅, ← p₆, eq-eqb (length s) 57 l, eq-eqb (get_or s 56 0) 10 n))
