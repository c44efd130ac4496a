-- `column::digits` meets its contract: the blanks of the column are those of its rest, up to where the rest starts with another byte or is empty.
use Rattle.std.proofs.Common.{ℕ, ◌+◌, sym, ap, ◌∙◌, arith, rules}
use lib.Seq.{slice, slice_empty}
use Rattle.word.specs.Word.{word_of, low_run}
use Rattle.column.specs.Column.{drop_blanks}
use Rattle.column.proofs.ReadingLaws.{blanks-skip, blanks-stop, within-line, slice-behind, slice-part}
use Rattle.column.proofs.BlankLaws.{run-le, word-skip, word-stop}
use Rattle.column.proofs.digits.Goals as goal

pub returns-then-end-from : goal.returns-then-end-from
unfolding drop_blanks
returns-then-end-from c =
    let a = c.args in
    let s = a.line.now in
    let e = c.min-end.result in
    let w = within-line s a.from a.to e c.min-end.ensures in
    slice-part s e e (search rules) w.0 ∙ slice_empty e s ∙ sym (ap drop_blanks (w.1 ∙ slice-behind s a.from e c.if-end-from.true))

pub loop-i-init : goal.loop-i-init
loop-i-init c =
    let a = c.args in
    let s = a.line.now in
    let e = c.min-end.result in
    let w = within-line s a.from a.to e c.min-end.ensures in
    (w.0, search rules, ap drop_blanks w.1)

pub overflow_add-i : goal.overflow_add-i
overflow_add-i c = omega (arith, c.blanks-i.ensures, run-le 4 c.read_le4-w.result)

pub slice_bounds-result-count-then-w-ne-BLANKS : goal.slice_bounds-result-count-then-w-ne-BLANKS
slice_bounds-result-count-then-w-ne-BLANKS c = omega (arith, c.blanks-i.ensures, run-le 4 c.read_le4-w.result)

pub slice_bounds-result-start-then-w-ne-BLANKS : goal.slice_bounds-result-start-then-w-ne-BLANKS
slice_bounds-result-start-then-w-ne-BLANKS c = omega (arith, c.blanks-i.ensures, run-le 4 c.read_le4-w.result)

pub returns-then-w-ne-BLANKS : goal.returns-then-w-ne-BLANKS
unfolding word_of
returns-then-w-ne-BLANKS c =
    let s = c.args.line.now in
    let i = c.loop-i.i in
    let e = c.min-end.result in
    let h = c.loop-i.invariant in
    let w = c.read_le4-w.ensures in
    slice-part s (i + c.blanks-i.result) e (omega (arith, c.blanks-i.ensures, run-le 4 c.read_le4-w.result)) h.0
    ∙ sym
    (h.2
    ∙ word-stop s (λ j. (c.type_inv.line j).fits) 4 i e (search rules) h.0 (λ q. c.if-w-ne-BLANKS.true (w ∙ q))
    ∙ ap (λ (j : ℕ). slice (i + j) e s) (sym (c.blanks-i.ensures ∙ ap (low_run 32 4) w)))

pub loop-i-preserved : goal.loop-i-preserved
unfolding word_of
loop-i-preserved c =
    let s = c.args.line.now in
    let h = c.loop-i.invariant in
    let w = sym c.read_le4-w.ensures ∙ c.if-w-ne-BLANKS.false in
    (h.0, search rules, h.2 ∙ word-skip s (λ j. (c.type_inv.line j).fits) 4 c.loop-i.i c.min-end.result (search rules) h.0 w)

pub loop-j-init : goal.loop-j-init
loop-j-init c = (c.loop-i.invariant.0, c.loop-i.invariant.2)

pub returns-then-line-j-ne32 : goal.returns-then-line-j-ne32
returns-then-line-j-ne32 c =
    let s = c.args.line.now in
    let i = c.loop-j.j in
    let e = c.min-end.result in
    let h = c.loop-j.invariant in
    slice-part s i e (search rules) h.0 ∙ sym (h.1 ∙ blanks-stop s i e (search rules) h.0 (search rules))

pub loop-j-preserved : goal.loop-j-preserved
loop-j-preserved c =
    let s = c.args.line.now in
    let h = c.loop-j.invariant in
    (h.0, h.1 ∙ blanks-skip s c.loop-j.j c.min-end.result (search rules) h.0 (search rules))

pub returns : goal.returns
unfolding drop_blanks
returns c =
    let s = c.args.line.now in
    let e = c.min-end.result in
    let h = c.loop-j.invariant in
    slice-part s e e (search rules) h.0
    ∙ slice_empty e s
    ∙ sym (h.1 ∙ ap drop_blanks (slice-behind s c.loop-j.j e (search rules)))
