-- `row_vote::step::hand_to_all` meets its contract: the first j nodes have the value.
use mathlib.Core.Path.{refl, ap, ◌∙◌}
use Prim.Native.Nat.{ℕ, suc}
use native.Mathlib.Omega.{arith}
use native.Mathlib.Numerals.{add-one}
use borrow.Author.Rules.{rules}
use Rattle.rows.specs.Code.{word_place}
use Rattle.row_word.specs.Code.{is_good}
use Rattle.row_counter.proofs.PutLaws.{put-none, put-taken, put-left, put_all}
use Rattle.row_word.proofs.HeardLaws.{good-if}
use Rattle.row_vote.proofs.PutLaws.{column_apart}
use mathlib.Core.Bool.{not}
use Rattle.row_vote.proofs.step.hand_to_all.Goals as goal
use Rattle.row_vote.proofs.step.hand_to_all.Goals.{else-not-is_bad, then-not-is_bad}

pub loop-j-init : goal.loop-j-init
loop-j-init c =
    let a = c.args in
    (search rules, search rules, search rules, search rules, put-none (λ i. word_place (suc i) a.c) (column_apart a.c) (is_good a.mask) (λ i. a.x) a.cells.now)

pub bounds-cells-word_place : goal.bounds-cells-word_place
bounds-cells-word_place c =
    let i = c.loop-j.invariant in
    omega (arith, c.word_place.ensures, i.1, i.2, i.3, i.4.size, c.loop-j-test.true)

pub loop-j-preserved : goal.loop-j-preserved
loop-j-preserved c =
    let a = c.args in
    let l = c.loop-j in
    let i = l.invariant in
    let place : ℕ → ℕ = λ k. word_place (suc k) a.c in
    elim c.if-not-is_bad.branch [
      | then-not-is_bad w ↦ (
        search rules,
        i.1,
        i.2,
        i.3,
        rw w.cells-is
            (put-taken place (column_apart a.c) (is_good a.mask) (λ k. a.x) a.cells.now l.j i.4 (good-if a.mask l.j c.is_bad.ensures (ap not w.if-not-is_bad.true))
            (w.word_place.ensures ∙ ap (λ (r : ℕ). word_place r a.c) (add-one l.j))
            (omega (arith, w.word_place.ensures, i.1, i.2, i.3, c.loop-j-test.true)) refl),
      )
      | else-not-is_bad w ↦ (
        search rules,
        i.1,
        i.2,
        i.3,
        rw w.cells-is (put-left place (column_apart a.c) (is_good a.mask) (λ k. a.x) a.cells.now l.j i.4 (good-if a.mask l.j c.is_bad.ensures (ap not w.if-not-is_bad.false))),
      )
    ]

pub returns : goal.returns
returns c =
    let a = c.args in
    put_all (λ k. word_place (suc k) a.c) (column_apart a.c) (is_good a.mask) (λ k. a.x) a.cells.now c.loop-j.j c.loop-j.invariant.4 (omega arith)
