-- A text of form is its lines, each written as a row.
use Rattle.std.specs.Prelude.{Some}
use mathlib.Core.Path.{◌≡◌, refl, sym, ap, ◌∙◌}
use mathlib.Core.Bool.{true}
use mathlib.Core.List.{List, [], ◌∷◌, ◌++◌, append_assoc, append-nil}
use Prim.Native.Nat.{ℕ, zero, suc, ◌+◌, ◌*◌, ◌/◌, ◌%◌, ◌≤◌, ◌<◌}
use native.Mathlib.Omega.{arith}
use native.Mathlib.Nat.{zero-add, suc-add}
use native.Mathlib.Numerals.{add-one}
use lib.ListN.{length, get_or, take, drop, length-append, get_or-append}
use lib.Seq.{slice, take-add, take_all, take-nil, take_at, drop_at, append_snoc, get_or-append_seam}
use borrow.Author.Tests.{ltb-true, leb-true, eqb-true}
use Rattle.array.specs.Index.{joined}
use Rattle.array.proofs.TestLaws.{and_left, and_right}
use Rattle.array.proofs.PlacesLaws.{Holds, joined_same, joined_length, joined-holds}
use Rattle.column.specs.Row.{row, Room, numbers_shown}
use Rattle.column.proofs.RowLaws.{total, row-length, row-of-numbers, room-of-numbers, numbers-of-row}
use Rattle.plan_grammar.specs.Line.{widths, line_size, most_text_lines, line_count, numbers_at, line_at, kind_of, second, third, fourth, fifth, sixth}
use Rattle.plan_grammar.specs.Written.{written}
use Rattle.plan_grammar.specs.Refused.{length_ok}

-- ---- parts

pub slice-part : {A : Type 0} (n m : ℕ) (l : List A) → slice n (n + m) l ≡ take m (drop n l)
slice-part zero m l = rw (zero-add m)
slice-part (suc n) m [] = rw (suc-add n m) (sym (take-nil m))
slice-part (suc n) m (x ∷ l) = rw (suc-add n m) (slice-part n m l)

slice-holds : (s : List ℕ) (at w : ℕ) (t : List ℕ) → Holds s at t → length t ≡ w → slice at (at + w) s ≡ t
slice-holds s at w t h e =
    slice-part at w s
    ∙ ap (λ (l : List ℕ). take w (drop at l)) h.whole
    ∙ ap (take w) (drop_at h.front (t ++ h.back) at h.size)
    ∙ take_at t h.back w e

-- ---- how long a text is

module _ (n : ℕ) (ok : length_ok n ≡ true) where
  pub length-positive : 0 < n
  unfolding length_ok
  length-positive = search (and_left, and_right, ltb-true)

  pub length_most : n ≤ line_size * most_text_lines
  unfolding length_ok
  length_most = search (and_left, and_right, leb-true)

  whole-lines : n % line_size ≡ 0
  unfolding length_ok
  whole-lines = search (and_left, and_right, eqb-true)

  pub length-lines : line_size * (n / line_size) ≡ n
  length-lines = omega (arith, whole-lines)

  pub some-line : 0 < n / line_size
  some-line = omega (arith, whole-lines, length-positive)

  pub few-lines : n / line_size ≤ most_text_lines
  few-lines = omega (arith, whole-lines, length_most)

-- ---- the numbers of a line

pub row-size : (l : List ℕ) → length (row widths l) ≡ line_size
unfolding total
row-size l = row-length widths l

pub line_at-is : (s : List ℕ) (i : ℕ) (l : List ℕ) → numbers_at s i ≡ Some l → line_at s i ≡ l
unfolding line_at
line_at-is s i l e = rw e

pub line-room : (s : List ℕ) (i : ℕ) (l : List ℕ) → numbers_at s i ≡ Some l → Room widths l
unfolding numbers_at
line-room s i l e = room-of-numbers widths (slice (line_size * i) (line_size * i + line_size) s) l e

pub line_row : (s : List ℕ) (i : ℕ) (l : List ℕ) → numbers_at s i ≡ Some l → slice (line_size * i) (line_size * i + line_size) s ≡ row widths l
unfolding numbers_at
line_row s i l e = row-of-numbers widths (slice (line_size * i) (line_size * i + line_size) s) l e

-- a line has six numbers
pub six-numbers : (l : List ℕ) → Room widths l → l ≡ kind_of l ∷ second l ∷ third l ∷ fourth l ∷ fifth l ∷ sixth l ∷ []
six-numbers [] r = absurd r
six-numbers (a ∷ []) r = absurd r.3
six-numbers (a ∷ b ∷ []) r = absurd r.3.3
six-numbers (a ∷ b ∷ c ∷ []) r = absurd r.3.3.3
six-numbers (a ∷ b ∷ c ∷ d ∷ []) r = absurd r.3.3.3.3
six-numbers (a ∷ b ∷ c ∷ d ∷ e ∷ []) r = absurd r.3.3.3.3.3
six-numbers (a ∷ b ∷ c ∷ d ∷ e ∷ f ∷ []) r = refl
six-numbers (a ∷ b ∷ c ∷ d ∷ e ∷ f ∷ g ∷ l) r = absurd r.3.3.3.3.3.3

-- ---- lines, written

pub written_none : written [] ≡ []
unfolding written joined
written_none = refl

pub written_one : (l : List ℕ) → written (l ∷ []) ≡ row widths l
unfolding written joined
written_one l = refl

pub written-snoc : (ls : List (List ℕ)) (l : List ℕ) → written (ls ++ (l ∷ [])) ≡ written ls ++ row widths l
unfolding written joined
written-snoc ls l =
    let n : length (ls ++ (l ∷ [])) ≡ suc (length ls) = length-append ls (l ∷ []) ∙ add-one (length ls) in
    let same = joined_same (λ i. row widths (get_or (ls ++ (l ∷ [])) i [])) (λ i. row widths (get_or ls i [])) (length ls) (λ i h. ap (row widths) (get_or-append ls (l ∷ []) [] i h)) in
    rw (n, same, get_or-append_seam ls l [] [])

pub written-append : (ls ms : List (List ℕ)) → written (ls ++ ms) ≡ written ls ++ written ms
written-append ls [] = rw (append-nil ls, written_none, append-nil (written ls))
written-append ls (m ∷ ms) =
    ap written (sym (append_snoc ls m ms))
    ∙ written-append (ls ++ (m ∷ [])) ms
    ∙ ap (λ (r : List ℕ). r ++ written ms) (written-snoc ls m)
    ∙ append_assoc (written ls) (row widths m) (written ms)
    ∙ ap (λ (r : List ℕ). written ls ++ (r ++ written ms)) (sym (written_one m))
    ∙ ap (λ (r : List ℕ). written ls ++ r) (sym (written-append (m ∷ []) ms))

pub written-joined : (f : ℕ → List (List ℕ)) (n : ℕ) → written (joined f n) ≡ joined (λ i. written (f i)) n
unfolding joined
written-joined f zero = written_none
written-joined f (suc n) = written-append (joined f n) (f n) ∙ rw (written-joined f n)

-- a line for each index
pub written-each : (f : ℕ → List ℕ) (n : ℕ) → written (joined (λ i. f i ∷ []) n) ≡ joined (λ i. row widths (f i)) n
written-each f n = written-joined (λ i. f i ∷ []) n ∙ joined_same _ _ n (λ i h. written_one (f i))

pub written-length : (ls : List (List ℕ)) → length (written ls) ≡ line_size * length ls
unfolding written
written-length ls =
    joined_length (λ i. row widths (get_or ls i [])) line_size (λ i. row-size (get_or ls i [])) (length ls) ∙ omega arith

-- ---- a text, line by line

-- the lines of a text from its first
abbrev pub lines_from : List ℕ → ℕ → List (List ℕ)
lines_from s i = joined (λ k. line_at s k ∷ []) i

pub text-rows :
    (s : List ℕ) (i : ℕ) → ((k : ℕ) → k < i → numbers_at s k ≡ Some (line_at s k)) → take (line_size * i) s ≡ joined (λ k. row widths (line_at s k)) i
unfolding joined
text-rows s zero f = refl
text-rows s (suc i) f =
    let e : line_size * suc i ≡ line_size * i + line_size = omega arith in
    rw (e, take-add (line_size * i) line_size s, text-rows s i (λ k l. f k (omega arith)))
    (ap (λ (r : List ℕ). joined (λ k. row widths (line_at s k)) i ++ r) (sym (slice-part (line_size * i) line_size s) ∙ line_row s i (line_at s i) (f i (omega arith))))

-- a text all of whose lines are of the form is its lines, written
pub text-written :
    (s : List ℕ) → length_ok (length s) ≡ true → ((k : ℕ) → k < line_count s → numbers_at s k ≡ Some (line_at s k)) → written (lines_from s (line_count s)) ≡ s
text-written s ok f =
    written-each (line_at s) (line_count s) ∙ sym (text-rows s (line_count s) f)
    ∙ take_all (line_size * line_count s) s (omega (arith, length-lines (length s) ok))

-- ---- the lines of a text that was written

module _ (ls : List (List ℕ)) (room : (i : ℕ) → i < length ls → Room widths (get_or ls i [])) where
  pub written-numbers : (i : ℕ) → i < length ls → numbers_at (written ls) i ≡ Some (get_or ls i [])
  unfolding numbers_at written
  written-numbers i l =
      let h = joined-holds (λ k. row widths (get_or ls k [])) line_size (λ k. row-size (get_or ls k [])) (length ls) i l in
      let e : i * line_size ≡ line_size * i = omega arith in
      ap (numbers_shown widths) (slice-holds (written ls) (line_size * i) line_size (row widths (get_or ls i [])) (rw e at h) (row-size (get_or ls i [])))
      ∙ numbers-of-row widths (get_or ls i []) (room i l)

pub written_count : (ls : List (List ℕ)) → line_count (written ls) ≡ length ls
written_count ls = omega (arith, written-length ls)
