-- The round trip of a row, over the widths of its columns.
use Rattle.std.specs.Prelude.{Option, None, Some}
use Rattle.std.proofs.Common.{◌≡◌, ℕ, zero, suc, ◌+◌, ◌^◌, ◌<◌, ◌≤◌, Bool, true, false, cond, ◌&&◌, eqb, List, [], ◌∷◌, ◌++◌, length, get_or, take, drop, sym, refl, ap, ◌∙◌, append_assoc, arith, lit<, length-append, take-append-drop, drop_of_length-le, length-take-le, drop-cons, take_at, drop_at, eq-eqb, eqb-true}
use lib.Seq.{slice, length-slice, drop-append-le, take-append-add, get_or_at}
use Rattle.array.proofs.TestLaws.{and_left, and_right}
use Rattle.column.specs.Column.{column, number_shown}
use Rattle.column.specs.Row.{row, Room, and_then, numbers_from, numbers_shown}
use Rattle.column.proofs.ColumnLaws.{column-length, column-of-number, number-of-column, number_bound, number_fits, number-full}

-- the sum of the widths
unfoldable pub total : List ℕ → ℕ
total [] = 0
total (w ∷ ws) = w + total ws

-- the widths, and the line feed
pub row-length : (ws vs : List ℕ) → length (row ws vs) ≡ total ws + 1
unfolding row total
row-length [] vs = refl
row-length (w ∷ ws) [] = rw (length-append, column-length w 0, row-length ws []) (omega arith)
row-length (w ∷ ws) (v ∷ vs) = rw (length-append, column-length w v, row-length ws vs) (omega arith)

-- ---- a row that is read, column by column

-- what a column more says
record Both (x : Option ℕ) (r : Option (List ℕ)) (vs : List ℕ) : Type 0 where
  pub head : ℕ
  pub tail : List ℕ
  pub first : x ≡ Some head
  pub rest : r ≡ Some tail
  pub whole : vs ≡ head ∷ tail

both-of-some : (x : Option ℕ) (r : Option (List ℕ)) (vs : List ℕ) → and_then x r ≡ Some vs → Both x r vs
both-of-some None r vs e = absurd (let z : ◌≡◌ {A = ℕ} 0 1 = cc in omega arith)
both-of-some (Some v) None vs e = absurd (let z : ◌≡◌ {A = ℕ} 0 1 = cc in omega arith)
both-of-some (Some v) (Some us) vs e = record { head = v; tail = us; first = refl; rest = refl; whole = cc }

-- what the end says
record End (at : ℕ) (s vs : List ℕ) : Type 0 where
  pub size : length s ≡ at + 1
  pub feed : get_or s at 0 ≡ 10
  pub none : vs ≡ []

end-of-some : (at : ℕ) (s vs : List ℕ) → numbers_from at [] s ≡ Some vs → End at s vs
unfolding numbers_from
end-of-some at s vs e = go (eqb (length s) (at + 1) && eqb (get_or s at 0) 10) refl e
  where
    go : (t : Bool) → (eqb (length s) (at + 1) && eqb (get_or s at 0) 10) ≡ t → cond {A = Option (List ℕ)} t (Some []) None ≡ Some vs → End at s vs
    go true q e =
        record {
          size = eqb-true (length s) (at + 1) (and_left _ _ q);
          feed = eqb-true (get_or s at 0) 10 (and_right (eqb (length s) (at + 1)) _ q);
          none = cc;
        }
    go false q e = absurd (let z : ◌≡◌ {A = ℕ} 0 1 = cc in omega arith)

more-of-some : (at w : ℕ) (ws s vs : List ℕ) → numbers_from at (w ∷ ws) s ≡ Some vs → Both (number_shown (slice at (at + w) s)) (numbers_from (at + w) ws s) vs
unfolding numbers_from
more-of-some at w ws s vs e = both-of-some (number_shown (slice at (at + w) s)) (numbers_from (at + w) ws s) vs e

from-length : (at : ℕ) (ws s vs : List ℕ) → numbers_from at ws s ≡ Some vs → length s ≡ at + total ws + 1
unfolding total
from-length at [] s vs e = omega (arith, end-of-some at s vs e)
from-length at (w ∷ ws) s vs e = let h = more-of-some at w ws s vs e in omega (arith, from-length (at + w) ws s h.tail h.rest)

-- the column of the width w at a place
module _ (at w : ℕ) (ws s vs : List ℕ) (e : numbers_from at (w ∷ ws) s ≡ Some vs) where
  from-slice : length (slice at (at + w) s) ≡ w
  unfolding total
  from-slice = length-slice at (at + w) s (omega (arith, from-length at (w ∷ ws) s vs e)) ∙ omega arith

-- ---- what is accepted is what is written

slice-rest : (s : List ℕ) (f t : ℕ) → f ≤ t → t ≤ length s → drop f s ≡ slice f t s ++ drop t s
slice-rest s f t l k =
    sym (ap (drop f) (take-append-drop t s)) ∙ drop-append-le f (take t s) (drop t s) (rw (length-take-le t s k) l)

from_row : (at : ℕ) (ws s vs : List ℕ) → numbers_from at ws s ≡ Some vs → drop at s ≡ row ws vs
unfolding row
from_row at [] s vs e =
    let h = end-of-some at s vs e in
    drop-cons s at 0 (omega (arith, h.size)) ∙ rw (h.feed, drop_of_length-le s {i = suc at} (omega (arith, h.size)))
from_row at (w ∷ ws) s vs e =
    let h = more-of-some at w ws s vs e in
    let c : slice at (at + w) s ≡ column w h.head = column-of-number (slice at (at + w) s) h.head h.first ∙ rw (from-slice at w ws s vs e) in
    slice-rest s at (at + w) (omega arith) (omega (arith, from-length (at + w) ws s h.tail h.rest))
    ∙ rw (c, from_row (at + w) ws s h.tail h.rest) (ap (row (w ∷ ws)) (sym h.whole))

pub row-of-numbers : (ws s vs : List ℕ) → numbers_shown ws s ≡ Some vs → s ≡ row ws vs
unfolding numbers_shown
row-of-numbers ws s vs e = from_row 0 ws s vs e

pub numbers-length : (ws s vs : List ℕ) → numbers_shown ws s ≡ Some vs → length s ≡ total ws + 1
numbers-length ws s vs e = ap length (row-of-numbers ws s vs e) ∙ row-length ws vs

-- ---- what is known of numbers that were read

from-room : (at : ℕ) (ws s vs : List ℕ) → numbers_from at ws s ≡ Some vs → Room ws vs
from-room at [] s vs e = rw (end-of-some at s vs e).none tt
from-room at (w ∷ ws) s vs e =
    let h = more-of-some at w ws s vs e in
    let f : length (slice at (at + w) s) ≡ w = from-slice at w ws s vs e in
    rw h.whole (rw f at (number-full (slice at (at + w) s) h.head h.first), rw f at (number_fits (slice at (at + w) s) h.head h.first), number_bound (slice at (at + w) s) h.head h.first, from-room (at + w) ws s h.tail h.rest)

pub room-of-numbers : (ws s vs : List ℕ) → numbers_shown ws s ≡ Some vs → Room ws vs
unfolding numbers_shown
room-of-numbers ws s vs e = from-room 0 ws s vs e

-- a number for each column
pub room-count : (ws vs : List ℕ) → Room ws vs → length vs ≡ length ws
room-count [] [] r = refl
room-count [] (v ∷ vs) r = absurd r
room-count (w ∷ ws) [] r = absurd r
room-count (w ∷ ws) (v ∷ vs) r = ap suc (room-count ws vs r.3)

pub room_bound : (ws vs : List ℕ) → Room ws vs → (i : ℕ) → get_or vs i 0 < 2 ^ 64
room_bound [] [] r i = lit< tt
room_bound [] (v ∷ vs) r i = absurd r
room_bound (w ∷ ws) [] r i = absurd r
room_bound (w ∷ ws) (v ∷ vs) r zero = r.2
room_bound (w ∷ ws) (v ∷ vs) r (suc i) = room_bound ws vs r.3 i

-- ---- what is written is read back

slice-middle : (p c r : List ℕ) (at w : ℕ) → length p ≡ at → length c ≡ w → slice at (at + w) (p ++ (c ++ r)) ≡ c
slice-middle p c r at w l k = rw (← l, take-append-add p (c ++ r) w, take_at c r w k) (drop_at p c (length p) refl)

from-written : (p ws vs : List ℕ) (at : ℕ) → length p ≡ at → Room ws vs → numbers_from at ws (p ++ row ws vs) ≡ Some vs
unfolding row numbers_from
from-written p [] [] at l r =
    rw (eq-eqb (length (p ++ (10 ∷ []))) (at + 1) (length-append p (10 ∷ []) ∙ rw l), get_or_at p 10 [] 0 at l)
from-written p [] (v ∷ vs) at l r = absurd r
from-written p (w ∷ ws) [] at l r = absurd r
from-written p (w ∷ ws) (v ∷ vs) at l r =
    let c = column w v in
    let k : length (p ++ c) ≡ at + w = length-append p c ∙ rw (l, column-length w v) in
    let q : numbers_from (at + w) ws (p ++ (c ++ row ws vs)) ≡ Some vs = rw (← append_assoc p c (row ws vs)) (from-written (p ++ c) ws vs (at + w) k r.3) in
    rw (slice-middle p c (row ws vs) at w l (column-length w v), number-of-column w v r.0 r.1 r.2, q)

pub numbers-of-row : (ws vs : List ℕ) → Room ws vs → numbers_shown ws (row ws vs) ≡ Some vs
unfolding numbers_shown
numbers-of-row ws vs r = from-written [] ws vs 0 refl r
