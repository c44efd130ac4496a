-- `row_vote::step::vote_each` meets its contract: the first c columns are voted.
use mathlib.Core.Path.{◌≡◌, refl, ap, ◌∙◌, subst}
use Prim.Native.Nat.{ℕ}
use native.Mathlib.Omega.{arith}
use lib.ListN.{get_or}
use borrow.Author.Rules.{rules}
use Rattle.array.specs.Index.{lesser}
use Rattle.array.proofs.LeastLaws.{least-same}
use Rattle.row_vote.specs.Code.{columns_least}
use Rattle.row_vote.proofs.DecideLaws.{cell-counted, cell-least}
use Rattle.row_vote.proofs.VoteLaws.{Voting, voting-none, voting-next, agreement-still}
use Rattle.row_vote.proofs.AgreementLaws.{columns-none, columns-next}
use Rattle.row_vote.proofs.step.vote_each.Goals as goal

pub loop-c-init : goal.loop-c-init
loop-c-init c =
    let a = c.args in
    let q = c.requires in
    (search rules, a.faults.now.small.cells, search rules, voting-none a.voted.now a.faults.now.sizes a.faults.now.mask a.faults.now.bytes.now (λ j. get_or a.sent.now j 0) (λ i. get_or a.frames.now i 0) a.cells.now, columns-none a.voted.now a.faults.now.sizes a.faults.now.mask a.faults.now.bytes.now (λ j. get_or a.sent.now j 0) (λ i. get_or a.frames.now i 0) a.cells.now a.low)

pub sent_words-words-requires : goal.sent_words-words-requires
sent_words-words-requires c = (c.args.faults.now.small.nodes, omega (arith, c.loop-c.invariant.1, c.loop-c-test.true), c.requires.0)

pub cell_each-agreed-requires : goal.cell_each-agreed-requires
cell_each-agreed-requires c =
    let q = c.requires in
    (c.loop-c-test.true, q.1)

pub loop-c-preserved : goal.loop-c-preserved
loop-c-preserved c =
    let l = c.loop-c in
    let i = l.invariant in
    let a = c.args in (
      search rules,
      i.1,
      c.cell_each-agreed.ensures.0.size ∙ i.2,
      voting-next a.voted.now a.faults.now.sizes a.faults.now.mask a.faults.now.bytes.now (λ j. get_or a.sent.now j 0) (λ k. get_or a.frames.now k 0) a.cells.now l.c (omega (arith, i.1, c.loop-c-test.true)) l.cells i.3 _
          (cell-counted a.voted.now a.faults.now.sizes a.faults.now.mask a.faults.now.bytes.now (λ j. get_or a.sent.now j 0) l.cells l.c c.sent_words-words.result c.sent_words-words.ensures (λ k. get_or a.frames.now k 0) c.cell_each-agreed.ensures.0),
      columns-next a.voted.now a.faults.now.sizes a.faults.now.mask a.faults.now.bytes.now (λ j. get_or a.sent.now j 0) (λ k. get_or a.frames.now k 0) a.cells.now a.low l.c i.4
          (cell-least a.voted.now a.faults.now.sizes a.faults.now.mask a.faults.now.bytes.now (λ j. get_or a.sent.now j 0) l.cells l.c c.sent_words-words.result c.sent_words-words.ensures (λ k. get_or a.frames.now k 0) l.agreed c.cell_each-agreed.ensures.1
          ∙ ap (lesser l.agreed)
          (least-same _ _ _ _ a.faults.now.sizes.nodes (λ j k. refl)
          (λ j k t. agreement-still a.voted.now a.faults.now.sizes a.faults.now.mask a.faults.now.bytes.now (λ n. get_or a.sent.now n 0) (λ n. get_or a.frames.now n 0) a.cells.now l.c (omega (arith, i.1, c.loop-c-test.true)) l.cells i.3 j))),
    )

pub returns : goal.returns
returns c =
    let a = c.args in
    let e : c.loop-c.c ≡ a.faults.now.sizes.cells = omega arith in (
      subst (λ (k : ℕ). Voting a.voted.now a.faults.now.sizes a.faults.now.mask a.faults.now.bytes.now (λ j. get_or a.sent.now j 0) (λ i. get_or a.frames.now i 0) a.cells.now k c.loop-c.cells) e c.loop-c.invariant.3,
      c.loop-c.invariant.4 ∙ ap (columns_least a.voted.now a.faults.now.sizes a.faults.now.mask a.faults.now.bytes.now (λ j. get_or a.sent.now j 0) (λ i. get_or a.frames.now i 0) a.cells.now a.low) e,
      c.loop-c.invariant.2,
    )
