-- Reading a column: where the blanks end, which part of the line it is, how many digits it has.
use Rattle.std.specs.Prelude.{None, Some}
use Rattle.std.proofs.Common.{◌≡◌, ℕ, ◌+◌, ◌-◌, ◌^◌, ◌<◌, ◌≤◌, cond, not, eqb, leb, ltb, min, List, [], ◌∷◌, length, get_or, take, drop, sym, ap, ◌∙◌, le_trans, zero-add, add-one, arith, length-drop, drop_of_length-le, length-take, length-take-le, take_all, take-add, drop_at, lt-ltb, eq-eqb, ne_eqb, leb-true, ltb-true, ltb-false}
use mathlib.Core.Bool.{or-true}
use native.Mathlib.Nat.{min-le_left}
use lib.Seq.{take-length, slice, slice-cons}
use Rattle.array.specs.Index.{all_below}
use Rattle.array.proofs.TestLaws.{split, and_right}
use Rattle.numeral.specs.Numeral.{is_digit, decimal, is_numeral, numeral_of}
use Rattle.column.specs.Column.{drop_blanks}

-- ---- the blanks

module _ (s : List ℕ) (i t : ℕ) (h : i < t) (l : t ≤ length s) where
  -- a blank is passed over
  pub blanks-skip : get_or s i 0 ≡ 32 → drop_blanks (slice i t s) ≡ drop_blanks (slice (i + 1) t s)
  unfolding drop_blanks
  blanks-skip e = ap drop_blanks (slice-cons i t s 0 h l) ∙ rw (add-one i, eq-eqb (get_or s i 0) 32 e)

  -- the first other byte ends the blanks
  pub blanks-stop : (get_or s i 0 ≡ 32 → ⊥) → drop_blanks (slice i t s) ≡ slice i t s
  unfolding drop_blanks
  blanks-stop e = ap drop_blanks (slice-cons i t s 0 h l) ∙ rw (ne_eqb (get_or s i 0) 32 e) (sym (slice-cons i t s 0 h l))

-- of a part that reaches past the list's end only what lies in the list counts
slice-past : (s : List ℕ) (f t : ℕ) → length s ≤ t → slice f t s ≡ slice f (length s) s
slice-past s f t l = rw (take_all t s l, take-length s)

-- what lies in the line of the part f..t, as the code takes its end
pub within-line : (s : List ℕ) (f t e : ℕ) → e ≡ min t (length s) → (e ≤ length s) × (slice f t s ≡ slice f e s)
within-line s f t e h =
    split (ltb t (length s))
    (λ x.
    let k : e ≡ t = omega (arith, h, ltb-true t (length s) x) in
    (omega (arith, h), ap (λ (n : ℕ). slice f n s) (sym k)))
    (λ x.
    let k : e ≡ length s = omega (arith, h, ltb-false t (length s) x) in
    (omega (arith, h), slice-past s f t (ltb-false t (length s) x) ∙ ap (λ (n : ℕ). slice f n s) (sym k)))

pub slice-behind : (s : List ℕ) (f t : ℕ) → t ≤ f → slice f t s ≡ []
slice-behind s f t l = drop_of_length-le (take t s) {i = f} (le_trans (rw length-take (min-le_left t (length s))) l)

-- a part as the code takes it
pub slice-part : (s : List ℕ) (f t : ℕ) → f ≤ t → t ≤ length s → take (t - f) (drop f s) ≡ slice f t s
slice-part s f t l k =
    let e : t ≡ f + (t - f) = omega arith in
    sym (ap (λ (n : ℕ). slice f n s) e ∙ rw take-add (drop_at (take f s) (take (t - f) (drop f s)) f (length-take-le f s (omega arith))))

-- a column that is lent by itself
pub slice-lent : (s : List ℕ) (f t w : ℕ) → f ≤ t → t ≤ length s → w ≡ t - f → slice 0 w (take (t - f) (drop f s)) ≡ slice f t s
slice-lent s f t w l k e =
    let n = length-take-le (t - f) (drop f s) (rw (length-drop f s) (omega arith)) in
    take_all w (take (t - f) (drop f s)) (omega (arith, n)) ∙ slice-part s f t l k

-- ---- how many digits

blanks-length : (s : List ℕ) → length (drop_blanks s) ≤ length s
unfolding drop_blanks
blanks-length [] = omega arith
blanks-length (b ∷ s) = split (eqb b 32) (λ t. rw t (omega (arith, blanks-length s))) (λ t. rw t (omega arith))

-- a narrow column has few
pub digits-few : (s : List ℕ) (f t : ℕ) → t < f + 8 → length (drop_blanks (slice f t s)) < 8
digits-few s f t h =
    omega (arith, blanks-length (slice f t s), length-drop f (take t s), length-take t s, min-le_left t (length s))

-- what a single one shows
pub numeral-one : (d : List ℕ) → length d ≡ 1 → cond (is_digit (get_or d 0 0)) (Some (get_or d 0 0 - 48)) None ≡ numeral_of d
unfolding numeral_of is_numeral decimal all_below
numeral-one d n =
    let b = get_or d 0 0 in
    rw n
    (split (is_digit b)
    (λ t.
    let h = leb-true b 57 (and_right (leb 48 b) (leb b 57) t) in
    rw (zero-add (b - 48), or-true (not (eqb b 48)), t, lt-ltb (b - 48) (2 ^ 64) (omega arith)))
    (λ t. rw (or-true (not (eqb b 48)), t)))
