-- `row_vote::step::vote_cell` meets its contract: one way out for each case of what is decided.
use mathlib.Core.Path.{ap, ◌∙◌}
use Prim.Native.Nat.{ℕ}
use native.Mathlib.Omega.{arith}
use lib.ListN.{get_or, get_or-replicate}
use Rattle.plan.specs.Limits.{most_nodes}
use Rattle.row_vote.specs.Code.{voted_at}
use Rattle.row_vote.proofs.DecideLaws.{cell-each, cell-none, cell-some}
use Rattle.row_vote.proofs.step.vote_cell.Goals as goal

pub cell_each-requires : goal.cell_each-requires
cell_each-requires c =
    let q = c.requires in
    (q.1, λ j l. omega (arith, get_or-replicate most_nodes j c.args.one 0 (omega (arith, c.args.faults.now.small.nodes)), q.3))

pub returns-then-mask-ne0 : goal.returns-then-mask-ne0
returns-then-mask-ne0 c =
    let a = c.args in
    let q = c.requires in
    cell-each a.voted.now a.faults.now.sizes a.faults.now.mask a.faults.now.bytes.now (λ j. get_or a.sent.now j 0) a.cells.now a.c c.sent_words-words.result c.sent_words-words.ensures c.decided.ensures a.low _
    (λ i l. ap (λ (g : ℕ). voted_at a.voted.now g a.c) (get_or-replicate most_nodes i a.one 0 (omega (arith, a.faults.now.small.nodes))) ∙ q.4)
    c.cell_each.ensures.0 c.cell_each.ensures.1

pub returns-in_default : goal.returns-in_default
returns-in_default c =
    let a = c.args in
    cell-none a.voted.now a.faults.now.sizes a.faults.now.mask a.faults.now.bytes.now (λ j. get_or a.sent.now j 0) a.cells.now a.c c.sent_words-words.result c.sent_words-words.ensures c.decided.ensures a.low c.in_default.is c.if-mask-ne0.false c.requires.0

pub returns : goal.returns
returns c =
    let a = c.args in
    cell-some a.voted.now a.faults.now.sizes a.faults.now.mask a.faults.now.bytes.now (λ j. get_or a.sent.now j 0) a.cells.now a.c c.sent_words-words.result c.sent_words-words.ensures c.decided.ensures a.low _ c.in-Some.is c.hand_to_all.ensures c.cell_agreed.ensures
