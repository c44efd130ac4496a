-- `row_vote::step::cell_each` meets its contract: of the first i nodes those that vote on the cell have counted.
use Rattle.std.specs.Prelude.{Option, unwrap_or}
use mathlib.Core.Path.{◌≡◌, ap, ◌∙◌}
use mathlib.Core.Bool.{Bool}
use Prim.Native.Nat.{ℕ, suc}
use native.Mathlib.Omega.{arith}
use native.Mathlib.Numerals.{add-one}
use lib.ListN.{get_or}
use borrow.Author.Rules.{rules}
use Rattle.array.specs.Index.{lesser, least}
use Rattle.array.proofs.LeastLaws.{least-none, least-taken, least-left}
use Rattle.ballot.specs.Majority.{majority, agreement}
use Rattle.ballot.proofs.PackedLaws.{packs-agreement}
use Rattle.rows.specs.Code.{word_place}
use Rattle.row_counter.proofs.PutLaws.{put-none, put-still, put-taken, put-left, put_all}
use Rattle.row_vote.specs.Code.{takes}
use Rattle.row_word.specs.Code.{heard_word}
use Rattle.row_vote.proofs.PutLaws.{column_apart}
use Rattle.row_vote.proofs.HeardLaws.{counted-old, takes-if}
use Rattle.row_vote.proofs.step.cell_each.Goals as goal
use Rattle.row_vote.proofs.step.cell_each.Goals.{else-is_bad-is_voted, then-is_bad-is_voted}

pub loop-i-init : goal.loop-i-init
loop-i-init c =
    let q = c.requires in
    (search rules, c.args.faults.now.small.nodes, omega (arith, c.args.faults.now.small.cells, q.0), search rules, put-none _ (column_apart c.args.c) _ _ _, least-none _ _ _)

pub is_voted-requires : goal.is_voted-requires
is_voted-requires c = (c.requires.1 c.loop-i.i c.loop-i-test.true, c.loop-i.invariant.2)

pub heard-all-requires : goal.heard-all-requires
heard-all-requires c = (c.loop-i-test.true, omega (arith, c.requires.0))

pub majority-v-requires : goal.majority-v-requires
majority-v-requires c = (c.heard-all.ensures.few, c.loop-i.invariant.1)

pub word_place-at-requires : goal.word_place-at-requires
word_place-at-requires c = (omega (arith, c.loop-i.invariant.1, c.loop-i-test.true), omega (arith, c.loop-i.invariant.2))

pub bounds-cells-at : goal.bounds-cells-at
bounds-cells-at c = omega (arith, c.word_place-at.ensures, c.loop-i.invariant.1, c.loop-i.invariant.2, c.loop-i.invariant.3, c.loop-i.invariant.4.size, c.loop-i-test.true)

pub bounds-cells-at-then-is_bad-is_voted : goal.bounds-cells-at-then-is_bad-is_voted
bounds-cells-at-then-is_bad-is_voted c = omega (arith, c.word_place-at.ensures, c.loop-i.invariant.1, c.loop-i.invariant.2, c.loop-i.invariant.3, c.loop-i.invariant.4.size, c.loop-i-test.true)

pub agreement-requires : goal.agreement-requires
agreement-requires c = omega (arith, c.heard-all.ensures.few, c.loop-i.invariant.1)

pub loop-i-preserved : goal.loop-i-preserved
loop-i-preserved c =
    let l = c.loop-i in
    let i = l.invariant in
    let a = c.args in
    let place : ℕ → ℕ = λ k. word_place (suc k) a.c in
    let take : ℕ → Bool = takes a.voted.now a.faults.now.mask (λ k. get_or a.frames.now k 0) a.c in
    let bin : ℕ → ℕ → Option ℕ = λ k. heard_word a.faults.now.sizes a.faults.now.mask a.faults.now.bytes.now (λ j. get_or a.words.now j 0) (suc a.c) k in
    let x : ℕ → ℕ = λ k. unwrap_or (majority (bin k) a.faults.now.sizes.nodes) (get_or a.cells.now (place k) 0) in
    let count : ℕ → ℕ = λ k. agreement (bin k) a.faults.now.sizes.nodes in
    elim c.if-is_bad-is_voted.branch [
      | then-is_bad-is_voted w ↦
          let t = takes-if a.voted.now a.faults.now.mask (λ k. get_or a.frames.now k 0) a.c l.i c.is_bad.ensures c.is_voted.ensures w.if-is_bad-is_voted.true in
          let packs = rw (add-one a.c) at w.heard-all.ensures in
          let at : w.word_place-at.result ≡ place l.i = w.word_place-at.ensures ∙ ap (λ (r : ℕ). word_place r a.c) (add-one l.i) in (
            search rules,
            i.1,
            i.2,
            i.3,
            rw w.cells-is
                (put-taken place (column_apart a.c) take x a.cells.now l.i i.4
                t
                at
                (omega (arith, w.word_place-at.ensures, i.1, i.2, i.3, c.loop-i-test.true))
                (counted-old (bin l.i) a.faults.now.sizes.nodes packs w.majority-v.ensures
                (ap (λ (k : ℕ). get_or l.cells k 0) at ∙ put-still place (column_apart a.c) take x a.cells.now l.i i.4)
                w.unwrap_or.ensures)),
            w.agreed-is ∙ w.min-agreed.ensures ∙ least-taken take count a.low l.i i.5 t (packs-agreement (bin l.i) a.faults.now.sizes.nodes packs w.majority-v.ensures w.agreement.ensures),
          )
      | else-is_bad-is_voted w ↦
          let t = takes-if a.voted.now a.faults.now.mask (λ k. get_or a.frames.now k 0) a.c l.i c.is_bad.ensures c.is_voted.ensures w.if-is_bad-is_voted.false in (
            search rules,
            i.1,
            i.2,
            i.3,
            rw w.cells-is (put-left place (column_apart a.c) take x a.cells.now l.i i.4 t),
            w.agreed-is ∙ least-left take count a.low l.i i.5 t,
          )
    ]

pub returns : goal.returns
returns c =
    let a = c.args in
    let e : c.loop-i.i ≡ a.faults.now.sizes.nodes = omega arith in (
      put_all _ (column_apart a.c) _ _ _ c.loop-i.i c.loop-i.invariant.4 e,
      c.loop-i.invariant.5
          ∙ ap (λ (k : ℕ). lesser a.low (least (takes a.voted.now a.faults.now.mask (λ i. get_or a.frames.now i 0) a.c) (λ i. agreement (heard_word a.faults.now.sizes a.faults.now.mask a.faults.now.bytes.now (λ j. get_or a.words.now j 0) (suc a.c) i) a.faults.now.sizes.nodes) k)) e,
    )
