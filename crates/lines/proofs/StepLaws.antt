-- What the steps of a run need.
use Rattle.std.specs.Prelude.{Option, None, Some}
use Rattle.std.proofs.lemmas.Option.{none-some}
use mathlib.Core.Path.{◌≡◌, refl, sym, ap, ◌∙◌}
use mathlib.Core.Bool.{Bool, true, false, cond, ◌&&◌}
use mathlib.Core.List.{List, [], ◌∷◌}
use Prim.Native.Nat.{ℕ, zero, suc, ◌+◌, ◌-◌, ◌^◌, ◌≤◌, ◌<◌, min}
use native.Mathlib.Omega.{arith}
use native.Mathlib.Nat.{min-eq_left, min-eq_right}
use lib.Dec.{leb, ltb}
use lib.ListN.{length, take, drop, length-replicate, length-drop}
use lib.Seq.{length-take-le, take-nil, take_all}
use borrow.Author.Tests.{le-ltb, lt-ltb, ltb-true, ltb-false, leb-true, leb-false}
use Rattle.array.proofs.TestLaws.{split, and_right}
use Rattle.column.specs.Row.{numbers_shown}
use Rattle.column.proofs.RowLaws.{total, room-count, room-of-numbers, numbers-length}
use Rattle.plan.specs.declared.Plan.{Plan}
use Rattle.memory.specs.declared.Memory.{Memory}
use Rattle.system.specs.declared.System.{System}
use Rattle.run_line.specs.Line.{pattern_width, run_widths, run_line_size, mask_in, fill_in, in_limits, run_numbers}
use Rattle.run_line.specs.Listing.{most_run_lines, line_numbers}
use Rattle.run_line.proofs.ReadingLaws.{length-bad}
use Rattle.run_line.proofs.WritingLaws.{total-of-columns}
use Rattle.lines.specs.declared.step.Stepped.{Stepped}
use Rattle.lines.specs.Code.{step_answer}

-- ---- the part of a run that is one line

pub part-taken : (l : List ℕ) (at size : ℕ) → at ≤ length l → take (min (at + size) (length l) - at) (drop at l) ≡ take size (drop at l)
part-taken l at size f =
    split (leb (at + size) (length l))
    (λ t.
    let k : at + size ≤ length l = leb-true (at + size) (length l) t in
    let n : at + size - at ≡ size = omega arith in
    rw (min-eq_left k, n))
    (λ t.
    let k : length l < at + size = leb-false (at + size) (length l) t in
    rw (min-eq_right (let z : length l ≤ at + size = omega arith in z), take_all (length l - at) (drop at l) (omega (arith, length-drop at l)), take_all size (drop at l) (omega (arith, length-drop at l))))

pub first-line : (l : List ℕ) (size : ℕ) {n : ℕ} → n ≡ min (0 + size) (length l) → take (n - 0) l ≡ take size l
first-line l size e = rw e (part-taken l 0 size (omega arith))

-- a front that is lent
pub front_length : (out : List ℕ) {n m : ℕ} → n ≡ m → m ≤ length out → length (take (n - 0) out) ≡ m
front_length out {n} {m} e l = let z : n - 0 ≡ m = omega (arith, e) in rw z (length-take-le m out l)

-- ---- the line's numbers

pub cond_same : {A : Type 0} (b : Bool) (x : A) → cond b x x ≡ x
cond_same true x = refl
cond_same false x = refl

pub line-late : (p : Plan) (frame : ℕ) (line : List ℕ) → most_run_lines ≤ frame → line_numbers p frame line ≡ None
unfolding line_numbers
line-late p frame line l = rw (le-ltb frame most_run_lines l)

pub line-early : (p : Plan) (frame : ℕ) (line : List ℕ) → frame < most_run_lines → line_numbers p frame line ≡ run_numbers p.nodes p.sensors line
unfolding line_numbers
line-early p frame line l = rw (lt-ltb frame most_run_lines l)

pub empty-of-length : (l : List ℕ) → length l ≡ 0 → l ≡ []
empty-of-length [] e = refl
empty-of-length (x ∷ l) e = absurd (omega arith)

-- no bytes are no line
pub nothing_read : (n s : ℕ) → run_numbers n s [] ≡ None
nothing_read n s = sym (length-bad n s [] (λ e. omega arith))

pub nothing-numbers : (p : Plan) (frame : ℕ) → line_numbers p frame (take (run_line_size p.sensors) []) ≡ None
unfolding line_numbers
nothing-numbers p frame =
    rw (take-nil {A = ℕ} (run_line_size p.sensors), nothing_read p.nodes p.sensors) (cond_same (ltb frame most_run_lines) None)

-- what is known of numbers within the limits
pub record Within (s : ℕ) (fill : ℕ) (vs : List ℕ) : Type 0 where
  pub count : length vs ≡ s
  pub small : fill ≤ 255

limits-of-some : (n : ℕ) (o : Option (List ℕ)) (l : List ℕ) → in_limits n o ≡ Some l → (o ≡ Some l) × (leb (fill_in l) 255 ≡ true)
unfolding in_limits
limits-of-some n None l e = absurd (let z : ◌≡◌ {A = ℕ} 0 1 = cc in omega arith)
limits-of-some n (Some k) l e = go (ltb (mask_in k) (2 ^ n) && leb (fill_in k) 255) refl e
  where
    go : (t : Bool) → (ltb (mask_in k) (2 ^ n) && leb (fill_in k) 255) ≡ t → cond {A = Option (List ℕ)} t (Some k) None ≡ Some l → (Some k ≡ Some l) × (leb (fill_in l) 255 ≡ true)
    go true q e = (e, (let s : k ≡ l = cc in ap (λ (x : List ℕ). leb (fill_in x) 255) (sym s) ∙ and_right (ltb (mask_in k) (2 ^ n)) _ q))
    go false q e = absurd (let z : ◌≡◌ {A = ℕ} 0 1 = cc in omega arith)

pub numbers-within :
    (n s : ℕ) (line : List ℕ) {mask fill : ℕ} {vs : List ℕ} → Some (mask ∷ fill ∷ vs) ≡ run_numbers n s line → Within s fill vs
unfolding run_numbers run_widths
numbers-within n s line {mask} {fill} {vs} e =
    let h = limits-of-some n (numbers_shown (run_widths s) line) (mask ∷ fill ∷ vs) (sym e) in
    let c : length (mask ∷ fill ∷ vs) ≡ length (run_widths s) = room-count (run_widths s) (mask ∷ fill ∷ vs) (room-of-numbers (run_widths s) line (mask ∷ fill ∷ vs) h.0) in
    let r : length (run_widths s) ≡ suc (suc s) = ap (λ (k : ℕ). suc (suc k)) (length-replicate s pattern_width) in
    record { count = omega (arith, c, r); small = leb-true fill 255 h.1 }

-- a line of form has its size
pub numbers-size : (n s : ℕ) (line l : List ℕ) → run_numbers n s line ≡ Some l → length line ≡ run_line_size s
unfolding run_numbers run_widths total
numbers-size n s line l e =
    let h = limits-of-some n (numbers_shown (run_widths s) line) l e in
    numbers-length (run_widths s) line l h.0 ∙ rw (total-of-columns s) (omega arith)

-- the patterns fit their array
pub take-fits : (n : ℕ) (l : List ℕ) → length (take n l) ≡ n → n ≤ length l
take-fits zero l e = omega arith
take-fits (suc n) [] e = absurd (omega arith)
take-fits (suc n) (x ∷ l) e = let h : n ≤ length l = take-fits n l (omega arith) in omega arith

-- ---- what a step that was or was not taken says of the numbers
pub taken_none : (p : Plan) (sys : System) (single : Memory) (r : Option Stepped) (o : Option (List ℕ)) → r ≡ step_answer p sys single o → r ≡ None → o ≡ None
unfolding step_answer
taken_none p sys single r None e t = refl
taken_none p sys single r (Some l) e t = absurd (none-some _ (sym t ∙ e))

pub taken-some : (p : Plan) (sys : System) (single : Memory) (r : Option Stepped) {s : Stepped} (o : Option (List ℕ)) → r ≡ step_answer p sys single o → r ≡ Some s → (l : List ℕ) × (o ≡ Some l)
unfolding step_answer
taken-some p sys single r None e t = absurd (none-some _ (sym e ∙ t))
taken-some p sys single r (Some l) e t = (l, refl)

-- a line that is run is not too late
pub line-in-time : (p : Plan) (frame : ℕ) (line l : List ℕ) → line_numbers p frame line ≡ Some l → frame < most_run_lines
line-in-time p frame line l e =
    split (ltb frame most_run_lines)
    (λ t. ltb-true frame most_run_lines t)
    (λ t. absurd (none-some _ (sym (late t) ∙ e)))
  where
    late : ltb frame most_run_lines ≡ false → line_numbers p frame line ≡ None
    late t = line-late p frame line (ltb-false frame most_run_lines t)
