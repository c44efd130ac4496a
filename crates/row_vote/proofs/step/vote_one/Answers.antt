-- `row_vote::step::vote_one` meets its contract: the first c columns are voted.
use mathlib.Core.Path.{◌≡◌, refl, sym, ap, ◌∙◌, subst}
use mathlib.Core.Bool.{true, false}
use Prim.Native.Nat.{ℕ, suc, ◌<◌}
use native.Mathlib.Omega.{arith}
use lib.ListN.{length, get_or}
use borrow.Author.Rules.{rules}
use Rattle.array.specs.Index.{lesser}
use Rattle.array.proofs.LeastLaws.{least-same}
use Rattle.array.proofs.TestLaws.{and-false-right}
use Rattle.plan.specs.Limits.{most_cells}
use Rattle.rows.specs.Code.{word_place}
use Rattle.row_word.specs.Code.{is_good}
use Rattle.row_counter.proofs.PutLaws.{put_same}
use Rattle.row_vote.specs.Code.{takes, voted_at, word_after, columns_least}
use Rattle.row_vote.proofs.PutLaws.{takes_one}
use Rattle.row_vote.proofs.VoteLaws.{Voting, voting-none, voting-next, voting-skip, agreement-still}
use Rattle.row_vote.proofs.AgreementLaws.{columns-none, columns-next, columns-skip}
use Rattle.row_vote.proofs.step.vote_one.Goals as goal
use Rattle.row_vote.proofs.step.vote_one.Goals.{else-is_voted, then-is_voted}

pub loop-c-init : goal.loop-c-init
loop-c-init c =
    let a = c.args in
    let q = c.requires in
    (search rules, a.faults.now.small.cells, search rules, voting-none a.voted.now a.faults.now.sizes a.faults.now.mask a.faults.now.bytes.now (λ j. get_or a.sent.now j 0) (λ i. a.one) a.cells.now, columns-none a.voted.now a.faults.now.sizes a.faults.now.mask a.faults.now.bytes.now (λ j. get_or a.sent.now j 0) (λ i. a.one) a.cells.now a.low)

pub is_voted-requires : goal.is_voted-requires
is_voted-requires c = (c.requires.2, omega (arith, c.loop-c.invariant.1, c.loop-c-test.true))

pub vote_cell-agreed-requires : goal.vote_cell-agreed-requires
vote_cell-agreed-requires c =
    let q = c.requires in
    (q.0, c.loop-c-test.true, q.1, q.2, sym c.is_voted.ensures ∙ c.if-is_voted.true)

pub loop-c-preserved : goal.loop-c-preserved
loop-c-preserved c =
    let l = c.loop-c in
    let i = l.invariant in
    let a = c.args in
    let narrow : l.c < most_cells = omega (arith, i.1, c.loop-c-test.true) in
    let sent : ℕ → ℕ = λ j. get_or a.sent.now j 0 in
    elim c.if-is_voted.branch [
      | then-is_voted w ↦
          let v : voted_at a.voted.now a.one l.c ≡ true = sym c.is_voted.ensures ∙ w.if-is_voted.true in (
            search rules,
            i.1,
            ap length w.cells-is ∙ w.vote_cell-agreed.ensures.0.size ∙ i.2,
            rw w.cells-is
                (voting-next a.voted.now a.faults.now.sizes a.faults.now.mask a.faults.now.bytes.now sent (λ k. a.one) a.cells.now l.c narrow l.cells i.3 _
                (put_same (λ k. word_place (suc k) l.c) (is_good a.faults.now.mask) (takes a.voted.now a.faults.now.mask (λ k. a.one) l.c) _ (word_after a.voted.now a.faults.now.sizes a.faults.now.mask a.faults.now.bytes.now sent l.cells l.c) a.faults.now.sizes.nodes l.cells _
                (λ j k. takes_one a.voted.now a.faults.now.mask a.one l.c j v) (λ j k t. refl) w.vote_cell-agreed.ensures.0)),
            w.agreed-is ∙ columns-next a.voted.now a.faults.now.sizes a.faults.now.mask a.faults.now.bytes.now sent (λ k. a.one) a.cells.now a.low l.c i.4
                (w.vote_cell-agreed.ensures.1
                ∙ ap (lesser l.agreed)
                (least-same (is_good a.faults.now.mask) (takes a.voted.now a.faults.now.mask (λ k. a.one) l.c) _ _ a.faults.now.sizes.nodes (λ j k. takes_one a.voted.now a.faults.now.mask a.one l.c j v)
                (λ j k t. agreement-still a.voted.now a.faults.now.sizes a.faults.now.mask a.faults.now.bytes.now sent (λ k. a.one) a.cells.now l.c narrow l.cells i.3 j))),
          )
      | else-is_voted w ↦
          let v : voted_at a.voted.now a.one l.c ≡ false = sym c.is_voted.ensures ∙ w.if-is_voted.false in (
            search rules,
            i.1,
            ap length w.cells-is ∙ i.2,
            rw w.cells-is
                (voting-skip a.voted.now a.faults.now.sizes a.faults.now.mask a.faults.now.bytes.now sent (λ k. a.one) a.cells.now l.c narrow l.cells i.3
                (λ j k. rw v (and-false-right (is_good a.faults.now.mask j) refl))),
            w.agreed-is ∙ columns-skip a.voted.now a.faults.now.sizes a.faults.now.mask a.faults.now.bytes.now sent (λ k. a.one) a.cells.now a.low l.c i.4 (λ j k. rw v (and-false-right (is_good a.faults.now.mask j) refl)),
          )
    ]

pub returns : goal.returns
returns c =
    let a = c.args in
    let e : c.loop-c.c ≡ a.faults.now.sizes.cells = omega arith in (
      subst (λ (k : ℕ). Voting a.voted.now a.faults.now.sizes a.faults.now.mask a.faults.now.bytes.now (λ j. get_or a.sent.now j 0) (λ i. a.one) a.cells.now k c.loop-c.cells) e c.loop-c.invariant.3,
      c.loop-c.invariant.4 ∙ ap (columns_least a.voted.now a.faults.now.sizes a.faults.now.mask a.faults.now.bytes.now (λ j. get_or a.sent.now j 0) (λ i. a.one) a.cells.now a.low) e,
      c.loop-c.invariant.2,
    )
