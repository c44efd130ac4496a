-- The refusals of a text by cases, and what is known of a line that is not refused.
use Rattle.std.specs.Prelude.{Option, None, Some}
use mathlib.Core.Path.{◌≡◌, refl, sym, ap, subst, ◌∙◌}
use mathlib.Core.Bool.{Bool, true, false, cond}
use mathlib.Core.List.{List}
use Prim.Native.Nat.{ℕ, zero, suc, ◌+◌, ◌-◌, ◌≤◌, ◌<◌}
use native.Mathlib.Omega.{arith}
use native.Mathlib.Nat.{not-suc-le-zero}
use native.Mathlib.Numerals.{add-one}
use lib.Dec.{eqb, leb, ltb}
use lib.ListN.{length}
use borrow.Author.Tests.{ltb-true, leb-true, eqb-true, eqb-false, eq-eqb, ne_eqb}
use Rattle.array.proofs.TestLaws.{split, and_left, and_right}
use Rattle.answer.specs.declared.Refusal.{Refusal}
use Rattle.answer.specs.declared.Refusal.TheVariants.{TextLength, Malformed, Header, OutOfOrder, OutOfRange, Unrecoverable}
use Rattle.answer.specs.Refusal.{number_of}
use Rattle.plan.specs.Limits.{most_frames, most_cells, most_actuators}
use Rattle.plan.specs.Known.{period}
use Rattle.plan.specs.Accepted.{header_ok}
use Rattle.plan_grammar.specs.Line.{line_count, numbers_at, line_at, kind_of, second, third, is_task, cell_kind, vote_kind, actuator_kind}
use Rattle.plan_grammar.specs.Meant.{plan_of}
use Rattle.plan_grammar.specs.Refused.{length_ok, is_header, frames_in, cells_in, actuators_in, actuator_in_order, in_order, in_range, rules_of, form_or_rules, line_refusal, or_refusal, first_refusal, is_last, end_refusal, period_refusal, lines_refusal, text_refusal}
use Rattle.plan_grammar.proofs.LineLaws.{line_at-is}

-- ---- answers

pub no_answer : {a : Refusal} {X : Type 0} → Some a ≡ None → X
no_answer e = absurd (let z : ◌≡◌ {A = ℕ} 0 1 = cc in omega arith)

or_refusal-left : (a b : Option Refusal) → or_refusal a b ≡ None → a ≡ None
or_refusal-left None b e = refl
or_refusal-left (Some x) b e = no_answer e

or_refusal-right : (a b : Option Refusal) → or_refusal a b ≡ None → b ≡ None
or_refusal-right None b e = e
or_refusal-right (Some x) b e = no_answer e

-- a test that refuses, if it passes
passes : (t : Bool) (a : Refusal) (o : Option Refusal) → cond t o (Some a) ≡ None → t ≡ true
passes true a o e = refl
passes false a o e = no_answer e

after_test : (t : Bool) (a : Refusal) (o : Option Refusal) → cond t o (Some a) ≡ None → o ≡ None
after_test true a o e = e
after_test false a o e = no_answer e

-- ---- the first refusal

module _ (s : List ℕ) where
  pub first-start : first_refusal s 0 ≡ None
  unfolding first_refusal
  first-start = refl

  pub first_more : (i : ℕ) (o : Option Refusal) → first_refusal s i ≡ None → line_refusal s i ≡ o → first_refusal s (i + 1) ≡ o
  unfolding first_refusal
  first_more i o e f = rw (add-one i, e, f)

  -- a refusal stays
  pub first-stays : (i n : ℕ) (a : Refusal) → i ≤ n → first_refusal s i ≡ Some a → first_refusal s n ≡ Some a
  unfolding first_refusal
  first-stays i zero a l e = let z : i ≡ 0 = omega arith in rw z at e
  first-stays i (suc n) a l e =
      split (eqb i (suc n))
      (λ t. rw (eqb-true i (suc n) t) at e)
      (λ t. let r = first-stays i n a (omega (arith, eqb-false i (suc n) t)) e in rw r)

  pub first-before : (i n : ℕ) → i ≤ n → first_refusal s n ≡ None → first_refusal s i ≡ None
  first-before i n l e = go (first_refusal s i) refl
    where
      go : (o : Option Refusal) → first_refusal s i ≡ o → o ≡ None
      go None f = refl
      go (Some a) f = no_answer (sym (first-stays i n a l f) ∙ e)

  pub first-line : (i n : ℕ) → i < n → first_refusal s n ≡ None → line_refusal s i ≡ None
  unfolding first_refusal
  first-line i n l e = or_refusal-right (first_refusal s i) (line_refusal s i) (first-before (suc i) n l e)

  pub first-none : (n : ℕ) → ((i : ℕ) → i < n → line_refusal s i ≡ None) → first_refusal s n ≡ None
  unfolding first_refusal
  first-none zero f = refl
  first-none (suc n) f = rw (first-none n (λ i l. f i (omega arith))) (f n (omega arith))

-- ---- one line

rules-after :
    (h : List ℕ) (i : ℕ) (prev l : List ℕ) → 0 < i →
    rules_of h i prev l ≡ cond (in_order h (i - 1) prev l) (cond (in_range h l) None (Some (OutOfRange (i + 1)))) (Some (OutOfOrder (i + 1)))
unfolding rules_of
rules-after h zero prev l n = absurd (not-suc-le-zero n)
rules-after h (suc j) prev l n = let e : suc j - 1 ≡ j = omega arith in rw e

module _ (s : List ℕ) (i : ℕ) where
  -- refused with 2
  pub line-malformed : numbers_at s i ≡ None → line_refusal s i ≡ Some (Malformed (i + 1))
  unfolding line_refusal form_or_rules
  line-malformed e = rw e

  pub line-rules : (l : List ℕ) → numbers_at s i ≡ Some l → line_refusal s i ≡ rules_of (line_at s 0) i (line_at s (i - 1)) l
  unfolding line_refusal form_or_rules
  line-rules l e = rw e

  -- a line that is not refused is of the form
  pub line-form : line_refusal s i ≡ None → numbers_at s i ≡ Some (line_at s i)
  line-form e = go (numbers_at s i) refl
    where
      go : (o : Option (List ℕ)) → numbers_at s i ≡ o → numbers_at s i ≡ Some (line_at s i)
      go None f = no_answer (sym (line-malformed f) ∙ e)
      go (Some l) f = f ∙ ap Some (sym (line_at-is s i l f))

  pub line-passes : line_refusal s i ≡ None → rules_of (line_at s 0) i (line_at s (i - 1)) (line_at s i) ≡ None
  line-passes e = sym (line-rules (line_at s i) (line-form e)) ∙ e

module _ (s : List ℕ) where
  pub line-header : line_refusal s 0 ≡ None → is_header (line_at s 0) ≡ true
  unfolding rules_of
  line-header e = passes (is_header (line_at s 0)) Header None (line-passes s 0 e)

  pub not-header : (l : List ℕ) → numbers_at s 0 ≡ Some l → is_header l ≡ false → line_refusal s 0 ≡ Some Header
  unfolding rules_of
  not-header l e f = line-rules s 0 l e ∙ rw f

  pub header-passes : (l : List ℕ) → numbers_at s 0 ≡ Some l → is_header l ≡ true → line_refusal s 0 ≡ None
  unfolding rules_of
  header-passes l e f = line-rules s 0 l e ∙ rw f

  -- line j after the header
  module _ (j : ℕ) where
    before : suc j - 1 ≡ j
    before = omega arith

    rules-later : (l : List ℕ) → numbers_at s (suc j) ≡ Some l → line_refusal s (suc j) ≡ rules_of (line_at s 0) (suc j) (line_at s j) l
    rules-later l e = line-rules s (suc j) l e ∙ rw before

    passes-later : line_refusal s (suc j) ≡ None → rules_of (line_at s 0) (suc j) (line_at s j) (line_at s (suc j)) ≡ None
    passes-later e = sym (rules-later (line_at s (suc j)) (line-form s (suc j) e)) ∙ e

    pub line-order : line_refusal s (suc j) ≡ None → in_order (line_at s 0) j (line_at s j) (line_at s (suc j)) ≡ true
    unfolding rules_of
    line-order e = passes (in_order (line_at s 0) j (line_at s j) (line_at s (suc j))) _ _ (passes-later e)

    pub line-range : line_refusal s (suc j) ≡ None → in_range (line_at s 0) (line_at s (suc j)) ≡ true
    unfolding rules_of
    line-range e =
        passes (in_range (line_at s 0) (line_at s (suc j))) _ _
        (after_test (in_order (line_at s 0) j (line_at s j) (line_at s (suc j))) _ _ (passes-later e))

    pub line-through :
        (l : List ℕ) → numbers_at s (suc j) ≡ Some l → in_order (line_at s 0) j (line_at s j) l ≡ true → in_range (line_at s 0) l ≡ true → line_refusal s (suc j) ≡ None
    unfolding rules_of
    line-through l e f g = rules-later l e ∙ rw (f, g)

-- the same of a line i that is not the first, as the reader's loop counts
module _ (s : List ℕ) (i : ℕ) (later : 0 < i) (l : List ℕ) (numbers : numbers_at s i ≡ Some l) where
  pub refused-order : in_order (line_at s 0) (i - 1) (line_at s (i - 1)) l ≡ false → line_refusal s i ≡ Some (OutOfOrder (i + 1))
  refused-order e = line-rules s i l numbers ∙ rw (rules-after (line_at s 0) i (line_at s (i - 1)) l later, e)

  pub refused-range :
      in_order (line_at s 0) (i - 1) (line_at s (i - 1)) l ≡ true → in_range (line_at s 0) l ≡ false → line_refusal s i ≡ Some (OutOfRange (i + 1))
  refused-range e f = line-rules s i l numbers ∙ rw (rules-after (line_at s 0) i (line_at s (i - 1)) l later, e, f)

  pub not-refused : in_order (line_at s 0) (i - 1) (line_at s (i - 1)) l ≡ true → in_range (line_at s 0) l ≡ true → line_refusal s i ≡ None
  not-refused e f = line-rules s i l numbers ∙ rw (rules-after (line_at s 0) i (line_at s (i - 1)) l later, e, f)

-- ---- the indices of a line that is not refused

module _ (h : List ℕ) (header : is_header h ≡ true) where
  pub header-frames : frames_in h ≤ most_frames
  unfolding is_header header_ok
  header-frames = search (and_left, and_right, leb-true) depth 8

  pub header-cells : cells_in h ≤ most_cells
  unfolding is_header header_ok
  header-cells = search (and_left, and_right, leb-true) depth 8

  pub header-actuators : actuators_in h ≤ most_actuators
  unfolding is_header header_ok
  header-actuators = search (and_left, and_right, leb-true) depth 8

  module _ (l : List ℕ) where
    pub cell-index : (j : ℕ) (prev : List ℕ) → in_order h j prev l ≡ true → kind_of l ≡ cell_kind → second l < most_cells
    unfolding in_order
    cell-index j prev o k =
        let r = rw k at o in
        omega (arith, header-cells, ltb-true j (cells_in h) (and_left _ _ r), eqb-true (second l) j (and_right (ltb j (cells_in h)) _ r))

    pub vote-index : in_range h l ≡ true → kind_of l ≡ vote_kind → (second l < most_frames) × (third l < most_cells)
    unfolding in_range is_task
    vote-index o k =
        let r = rw k at o in
        let f : second l < frames_in h = search (and_left, and_right, ltb-true) in
        let c : third l < cells_in h = search (and_left, and_right, ltb-true) in
        (omega (arith, header-frames), omega (arith, header-cells))

    pub actuator-index : (j : ℕ) (prev : List ℕ) → in_order h j prev l ≡ true → kind_of l ≡ actuator_kind → second l < most_actuators
    unfolding in_order actuator_in_order is_task
    actuator-index j prev o k =
        let r = and_right (leb (cells_in h) j) _ (rw k at o) in
        omega (arith, header-actuators, ltb-true (second l) (actuators_in h) (and_left _ _ r))

-- ---- the whole text

module _ (s : List ℕ) where
  pub lines-first : lines_refusal s ≡ None → first_refusal s (line_count s) ≡ None
  unfolding lines_refusal
  lines-first e = or_refusal-left (first_refusal s (line_count s)) (end_refusal s) e

  pub lines-last : lines_refusal s ≡ None → is_last (line_at s 0) (line_at s (line_count s - 1)) ≡ true
  unfolding lines_refusal end_refusal
  lines-last e =
      passes (is_last (line_at s 0) (line_at s (line_count s - 1))) _ _ (or_refusal-right (first_refusal s (line_count s)) (end_refusal s) e)

  pub lines_none : first_refusal s (line_count s) ≡ None → is_last (line_at s 0) (line_at s (line_count s - 1)) ≡ true → lines_refusal s ≡ None
  unfolding lines_refusal end_refusal
  lines_none e f = rw (e, f)

  -- a line is refused, and so is the text
  pub lines-refused : (i : ℕ) (a : Refusal) → i ≤ line_count s → first_refusal s i ≡ Some a → lines_refusal s ≡ Some a
  unfolding lines_refusal
  lines-refused i a l e = rw (first-stays s i (line_count s) a l e)

  pub lines-missing :
      first_refusal s (line_count s) ≡ None → is_last (line_at s 0) (line_at s (line_count s - 1)) ≡ false → lines_refusal s ≡ Some (OutOfOrder (line_count s + 1))
  unfolding lines_refusal end_refusal
  lines-missing e f = rw (e, f)

  -- 1
  pub text-wrong-length : length_ok (length s) ≡ false → text_refusal s ≡ Some TextLength
  unfolding text_refusal
  text-wrong-length e = rw e

  -- 2 to 5
  pub text-refused : (a : Refusal) → length_ok (length s) ≡ true → lines_refusal s ≡ Some a → text_refusal s ≡ Some a
  unfolding text_refusal
  text-refused a e f = rw (e, f)

  -- 6
  pub text-unrecoverable : length_ok (length s) ≡ true → lines_refusal s ≡ None → period (plan_of s) ≡ 0 → text_refusal s ≡ Some Unrecoverable
  unfolding text_refusal period_refusal
  text-unrecoverable e f g = rw (e, f, eq-eqb (period (plan_of s)) 0 g)

  pub text-none : length_ok (length s) ≡ true → lines_refusal s ≡ None → (period (plan_of s) ≡ 0 → ⊥) → text_refusal s ≡ None
  unfolding text_refusal period_refusal
  text-none e f g = rw (e, f, ne_eqb (period (plan_of s)) 0 g)

  -- a text that is not refused
  pub text-length-ok : text_refusal s ≡ None → length_ok (length s) ≡ true
  unfolding text_refusal
  text-length-ok e = passes (length_ok (length s)) _ _ e

  text-rest : text_refusal s ≡ None → or_refusal (lines_refusal s) (period_refusal s) ≡ None
  unfolding text_refusal
  text-rest e = after_test (length_ok (length s)) _ _ e

  pub text-lines-ok : text_refusal s ≡ None → lines_refusal s ≡ None
  text-lines-ok e = or_refusal-left (lines_refusal s) (period_refusal s) (text-rest e)

  pub text-period : text_refusal s ≡ None → eqb (period (plan_of s)) 0 ≡ false
  unfolding period_refusal
  text-period e =
      split (eqb (period (plan_of s)) 0)
      (λ t. no_answer (ap (λ (b : Bool). cond b (Some Unrecoverable) None) (sym t) ∙ or_refusal-right (lines_refusal s) (period_refusal s) (text-rest e)))
      (λ t. t)

-- ---- what a refusal can be

-- what refuses, if anything does, is one of P
abbrev Only : (Refusal → Type 0) → Option Refusal → Type 0
Only P None = Unit {0}
Only P (Some a) = P a

only-or : (P : Refusal → Type 0) (a b : Option Refusal) → Only P a → Only P b → Only P (or_refusal a b)
only-or P None b x y = y
only-or P (Some c) b x y = x

only-test : (P : Refusal → Type 0) (t : Bool) (a b : Option Refusal) → Only P a → Only P b → Only P (cond t a b)
only-test P true a b x y = x
only-test P false a b x y = y

only_of : (P : Refusal → Type 0) (o : Option Refusal) (a : Refusal) → Only P o → o ≡ Some a → P a
only_of P o a x e = subst (Only P) e x

-- of a text's lines: 2, 3, 4 or 5
module _
    (P : Refusal → Type 0)
    (malformed : (i : ℕ) → P (Malformed i))
    (header : P Header)
    (order : (i : ℕ) → P (OutOfOrder i))
    (range : (i : ℕ) → P (OutOfRange i))
  where
    only-rules : (h : List ℕ) (i : ℕ) (prev l : List ℕ) → Only P (rules_of h i prev l)
    unfolding rules_of
    only-rules h zero prev l = only-test P (is_header l) None (Some Header) tt header
    only-rules h (suc j) prev l =
        only-test P (in_order h j prev l) (cond (in_range h l) None (Some (OutOfRange (suc j + 1)))) (Some (OutOfOrder (suc j + 1)))
        (only-test P (in_range h l) None (Some (OutOfRange (suc j + 1))) tt (range (suc j + 1))) (order (suc j + 1))

    only-form : (h : List ℕ) (i : ℕ) (prev : List ℕ) (o : Option (List ℕ)) → Only P (form_or_rules h i prev o)
    unfolding form_or_rules
    only-form h i prev None = malformed (i + 1)
    only-form h i prev (Some l) = only-rules h i prev l

    only-first : (s : List ℕ) (i : ℕ) → Only P (first_refusal s i)
    unfolding first_refusal line_refusal
    only-first s zero = tt
    only-first s (suc i) = only-or P (first_refusal s i) (line_refusal s i) (only-first s i) (only-form (line_at s 0) i (line_at s (i - 1)) (numbers_at s i))

    only-lines : (s : List ℕ) → Only P (lines_refusal s)
    unfolding lines_refusal end_refusal
    only-lines s =
        only-or P (first_refusal s (line_count s)) (end_refusal s) (only-first s (line_count s))
        (only-test P (is_last (line_at s 0) (line_at s (line_count s - 1))) None (Some (OutOfOrder (line_count s + 1))) tt (order (line_count s + 1)))

Recoverable : Refusal → Type 0
Recoverable a = a ≡ Unrecoverable → ⊥

-- 6 is no refusal of a line
pub lines-recoverable : (s : List ℕ) → lines_refusal s ≡ Some Unrecoverable → ⊥
unfolding Recoverable
lines-recoverable s e =
    only_of Recoverable (lines_refusal s) Unrecoverable
    (only-lines Recoverable
    (λ i f. let z : ◌≡◌ {A = ℕ} 0 1 = cc in omega arith)
    (λ f. let z : ◌≡◌ {A = ℕ} 0 1 = cc in omega arith)
    (λ i f. let z : ◌≡◌ {A = ℕ} 0 1 = cc in omega arith)
    (λ i f. let z : ◌≡◌ {A = ℕ} 0 1 = cc in omega arith) s)
    e
    refl

-- a refusal has a number of its own: it is not the answer that is none
Numbered : Refusal → Type 0
Numbered a = number_of a ≡ 0 → ⊥

pub refusal-numbered : (s : List ℕ) (a : Refusal) → text_refusal s ≡ Some a → number_of a ≡ 0 → ⊥
unfolding text_refusal period_refusal Numbered
refusal-numbered s a =
    only_of Numbered (text_refusal s) a
    (only-test Numbered (length_ok (length s)) (or_refusal (lines_refusal s) (period_refusal s)) (Some TextLength)
    (only-or Numbered (lines_refusal s) (period_refusal s)
    (only-lines Numbered (λ i e. omega arith) (λ e. omega arith) (λ i e. omega arith) (λ i e. omega arith) s)
    (only-test Numbered (eqb (period (plan_of s)) 0) (Some Unrecoverable) None (λ e. omega arith) tt))
    (λ e. omega arith))
