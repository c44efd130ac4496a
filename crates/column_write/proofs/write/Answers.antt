-- `column_write::write` meets its contract: what is yet to be written, then what stands in `out` from `i` on, is the column.
use mathlib.Core.Path.{◌≡◌, sym, ap, ◌∙◌}
use mathlib.Core.List.{List, [], ◌++◌}
use Prim.Native.Nat.{ℕ, suc, ◌+◌, ◌<◌, ◌≤◌, ◌-◌, ◌/◌, ◌%◌}
use native.Mathlib.Omega.{arith}
use lib.ListN.{length, set, drop, length-set}
use borrow.Author.Rules.{rules}
use Rattle.column.specs.Column.{column, front}
use Rattle.array.specs.Code.{placed}
use Rattle.word.specs.Word.{word_of, bytes_of}
use Rattle.column_write.specs.Code.{digit_list}
use Rattle.column_write.proofs.PrintLaws.{Written, written-digits, written-short, digits-eight, digits-four, digits-room, digits-length}
use Rattle.column_write.proofs.WritingLaws.{column-start, column-end, column-next, front-next}
use Rattle.column_write.proofs.write.Goals as goal
use Rattle.column_write.proofs.write.Goals.{then-i-ge4+else-rest-eq0-2, else-i-ge4}

-- four digits written at once, and more to come
written-four :
    (e l m : List ℕ) (v i rest d : ℕ) →
    Written e v l i rest →
    4 ≤ i →
    0 < rest / 10000 →
    d ≡ word_of (digit_list 4 (rest % 10000) ++ digit_list 4 0) →
    m ≡ placed l (i - 4) (bytes_of 4 (d + 3472328296227680304)) →
    Written e v m (i - 4) (rest / 10000)
written-four e l m v i rest d h p wider q u =
    written-digits e l m (digit_list 4 0) v i rest d h 4 p (ap (λ (n : ℕ). 4 + n) (digits-length 4 0)) (q ∙ digits-four rest) wider u

pub loop-i-init : goal.loop-i-init
loop-i-init c = (search rules, search rules, column-start c.args.out.now c.args.v)

pub blanked-requires : goal.blanked-requires
blanked-requires c =
    let m = c.loop-i.rest % 100000000 in (omega (arith, c.digit_word-d.ensures, digits-room (m / 10000) (m % 10000)), search rules, search rules)

pub returns-then-rest-eq0 : goal.returns-then-rest-eq0
returns-then-rest-eq0 c =
    let l = c.loop-i in
    let a = c.args in
    let p : 8 ≤ l.i = omega (arith, c.loop-i-test) in
    let short : l.rest < 100000000 = omega (arith, c.if-rest-eq0.true) in
    written-short a.out.now l.out c.write_le8.new.out [] a.v l.i l.rest c.digit_word-d.result l.invariant
    7
    c.blanked.result
    c.put_blanks.new.out
    p
    (search rules)
    (c.digit_word-d.ensures ∙ digits-eight l.rest)
    short
    c.blanked.ensures
    c.write_le8.ensures
    c.put_blanks.ensures

pub overflow_add-d : goal.overflow_add-d
overflow_add-d c =
    let m = c.loop-i.rest % 100000000 in omega (arith, c.digit_word-d.ensures, digits-room (m / 10000) (m % 10000))

pub loop-i-preserved : goal.loop-i-preserved
loop-i-preserved c =
    let l = c.loop-i in
    let a = c.args in
    let p : 8 ≤ l.i = omega (arith, c.loop-i-test) in
    let wider : 0 < l.rest / 100000000 = omega (arith, c.if-rest-eq0.false) in
    written-digits a.out.now l.out c.write_le8-in-loop-i.new.out [] a.v l.i l.rest c.digit_word-d.result l.invariant
    8
    p
    (search rules)
    (c.digit_word-d.ensures ∙ digits-eight l.rest)
    wider
    c.write_le8-in-loop-i.ensures

pub blanked-requires-then-rest-eq0-2 : goal.blanked-requires-then-rest-eq0-2
blanked-requires-then-rest-eq0-2 c =
    (omega (arith, c.digit_word-d-then-i-ge4.ensures, digits-room (c.loop-i.rest % 10000) 0), search rules, search rules)

pub returns-then-rest-eq0-2 : goal.returns-then-rest-eq0-2
returns-then-rest-eq0-2 c =
    let l = c.loop-i in
    let a = c.args in
    let p : 4 ≤ l.i = omega (arith, c.if-i-ge4.true) in
    let short : l.rest < 10000 = omega (arith, c.if-rest-eq0-2.true) in
    written-short a.out.now l.out c.write_le4.new.out (digit_list 4 0) a.v l.i l.rest c.digit_word-d-then-i-ge4.result l.invariant
    3
    c.blanked-then-rest-eq0-2.result
    c.put_blanks-then-rest-eq0-2.new.out
    p
    (ap (λ (n : ℕ). 4 + n) (digits-length 4 0))
    (c.digit_word-d-then-i-ge4.ensures ∙ digits-four l.rest)
    short
    c.blanked-then-rest-eq0-2.ensures
    c.write_le4.ensures
    c.put_blanks-then-rest-eq0-2.ensures

pub overflow_add-d-then-i-ge4 : goal.overflow_add-d-then-i-ge4
overflow_add-d-then-i-ge4 c =
    omega (arith, c.digit_word-d-then-i-ge4.ensures, digits-room (c.loop-i.rest % 10000) 0)

pub shape_of-out-then-i-eq0 : goal.shape_of-out-then-i-eq0
shape_of-out-then-i-eq0 c =
    let joined : Written c.args.out.now c.args.v c.if-i-ge4.out c.if-i-ge4.i c.if-i-ge4.rest =
    elim c.if-i-ge4.branch [
      | then-i-ge4+else-rest-eq0-2 w ↦
          rw (w.out-is, w.i-is, w.rest-is)
          (written-four c.args.out.now c.loop-i.out w.write_le4-then-i-ge4.new.out c.args.v c.loop-i.i c.loop-i.rest w.digit_word-d-then-i-ge4.result c.loop-i.invariant
          (omega (arith, w.if-i-ge4.true))
          (omega (arith, w.if-rest-eq0-2.false))
          w.digit_word-d-then-i-ge4.ensures
          w.write_le4-then-i-ge4.ensures)
      | else-i-ge4 w ↦ rw (w.out-is, w.i-is, w.rest-is) c.loop-i.invariant
    ] in
    joined.1

pub returns-then-i-eq0 : goal.returns-then-i-eq0
returns-then-i-eq0 c =
    let joined : Written c.args.out.now c.args.v c.if-i-ge4.out c.if-i-ge4.i c.if-i-ge4.rest =
    elim c.if-i-ge4.branch [
      | then-i-ge4+else-rest-eq0-2 w ↦
          rw (w.out-is, w.i-is, w.rest-is)
          (written-four c.args.out.now c.loop-i.out w.write_le4-then-i-ge4.new.out c.args.v c.loop-i.i c.loop-i.rest w.digit_word-d-then-i-ge4.result c.loop-i.invariant
          (omega (arith, w.if-i-ge4.true))
          (omega (arith, w.if-rest-eq0-2.false))
          w.digit_word-d-then-i-ge4.ensures
          w.write_le4-then-i-ge4.ensures)
      | else-i-ge4 w ↦ rw (w.out-is, w.i-is, w.rest-is) c.loop-i.invariant
    ] in
    let j = c.if-i-ge4 in
    let a = c.args in
    column-end (column (length a.out.now) a.v) j.out j.i j.rest joined.2 c.if-i-eq0.true

pub bounds-out-i : goal.bounds-out-i
bounds-out-i c =
    let joined : Written c.args.out.now c.args.v c.if-i-ge4.out c.if-i-ge4.i c.if-i-ge4.rest =
    elim c.if-i-ge4.branch [
      | then-i-ge4+else-rest-eq0-2 w ↦
          rw (w.out-is, w.i-is, w.rest-is)
          (written-four c.args.out.now c.loop-i.out w.write_le4-then-i-ge4.new.out c.args.v c.loop-i.i c.loop-i.rest w.digit_word-d-then-i-ge4.result c.loop-i.invariant
          (omega (arith, w.if-i-ge4.true))
          (omega (arith, w.if-rest-eq0-2.false))
          w.digit_word-d-then-i-ge4.ensures
          w.write_le4-then-i-ge4.ensures)
      | else-i-ge4 w ↦ rw (w.out-is, w.i-is, w.rest-is) c.loop-i.invariant
    ] in
    let z = c.if-i-eq0.false in omega (arith, joined.0)

pub loop-i-2-init : goal.loop-i-2-init
loop-i-2-init c =
    let joined : Written c.args.out.now c.args.v c.if-i-ge4.out c.if-i-ge4.i c.if-i-ge4.rest =
    elim c.if-i-ge4.branch [
      | then-i-ge4+else-rest-eq0-2 w ↦
          rw (w.out-is, w.i-is, w.rest-is)
          (written-four c.args.out.now c.loop-i.out w.write_le4-then-i-ge4.new.out c.args.v c.loop-i.i c.loop-i.rest w.digit_word-d-then-i-ge4.result c.loop-i.invariant
          (omega (arith, w.if-i-ge4.true))
          (omega (arith, w.if-rest-eq0-2.false))
          w.digit_word-d-then-i-ge4.ensures
          w.write_le4-then-i-ge4.ensures)
      | else-i-ge4 w ↦ rw (w.out-is, w.i-is, w.rest-is) c.loop-i.invariant
    ] in
    let a = c.args in
    let j = c.if-i-ge4 in
    let s = joined in
    let out = j.out in
    let i = j.i in
    let z = c.if-i-eq0.false in
    let e : i ≡ suc (i - 1) = omega arith in
    let in-out : i - 1 < length out = omega (arith, s.0) in (
      simp length-set in-out,
      search rules,
      ap (λ (n : ℕ). column n a.v) (length-set out (i - 1) (48 + j.rest % 10) ∙ s.1)
          ∙ column-next (column (length a.out.now) a.v) out (i - 1) j.rest in-out
          (s.2 ∙ ap (λ (k : ℕ). column k j.rest ++ drop k out) e),
    )

pub loop-i-2-preserved : goal.loop-i-2-preserved
loop-i-2-preserved c =
    let l = c.loop-i-2 in
    let i = l.i in
    let out = l.out in
    let e : i ≡ suc (i - 1) = omega (arith, c.loop-i-2-test) in
    let in-out : i - 1 < length out = omega (arith, l.invariant.0) in (
      simp length-set in-out,
      simp length-set (simp length-set at l.invariant.1),
      l.invariant.2
          ∙ ap (λ (k : ℕ). front k l.rest ++ drop k out) e
          ∙ front-next out (i - 1) l.rest in-out
          ∙ ap (λ (b : ℕ). front (i - 1) (l.rest / 10) ++ drop (i - 1) (set out (i - 1) b)) (sym c.glyph.ensures),
    )

pub shape_of-out : goal.shape_of-out
shape_of-out c =
    let joined : Written c.args.out.now c.args.v c.if-i-ge4.out c.if-i-ge4.i c.if-i-ge4.rest =
    elim c.if-i-ge4.branch [
      | then-i-ge4+else-rest-eq0-2 w ↦
          rw (w.out-is, w.i-is, w.rest-is)
          (written-four c.args.out.now c.loop-i.out w.write_le4-then-i-ge4.new.out c.args.v c.loop-i.i c.loop-i.rest w.digit_word-d-then-i-ge4.result c.loop-i.invariant
          (omega (arith, w.if-i-ge4.true))
          (omega (arith, w.if-rest-eq0-2.false))
          w.digit_word-d-then-i-ge4.ensures
          w.write_le4-then-i-ge4.ensures)
      | else-i-ge4 w ↦ rw (w.out-is, w.i-is, w.rest-is) c.loop-i.invariant
    ] in
    let j = c.if-i-ge4 in
    c.loop-i-2.invariant.1 ∙ length-set j.out (j.i - 1) (48 + j.rest % 10) ∙ joined.1

pub returns : goal.returns
unfolding front
returns c =
    let joined : Written c.args.out.now c.args.v c.if-i-ge4.out c.if-i-ge4.i c.if-i-ge4.rest =
    elim c.if-i-ge4.branch [
      | then-i-ge4+else-rest-eq0-2 w ↦
          rw (w.out-is, w.i-is, w.rest-is)
          (written-four c.args.out.now c.loop-i.out w.write_le4-then-i-ge4.new.out c.args.v c.loop-i.i c.loop-i.rest w.digit_word-d-then-i-ge4.result c.loop-i.invariant
          (omega (arith, w.if-i-ge4.true))
          (omega (arith, w.if-rest-eq0-2.false))
          w.digit_word-d-then-i-ge4.ensures
          w.write_le4-then-i-ge4.ensures)
      | else-i-ge4 w ↦ rw (w.out-is, w.i-is, w.rest-is) c.loop-i.invariant
    ] in
    let a = c.args in
    let j = c.if-i-ge4 in
    let l = c.loop-i-2 in
    let n : length (set j.out (j.i - 1) (48 + j.rest % 10)) ≡ length a.out.now =
    length-set j.out (j.i - 1) (48 + j.rest % 10) ∙ joined.1 in
    let z : l.i ≡ 0 = omega (arith, c.loop-i-2-test) in
    sym (ap (λ (c : ℕ). column c a.v) (sym n) ∙ l.invariant.2 ∙ ap (λ (c : ℕ). front c l.rest ++ drop c l.out) z)
