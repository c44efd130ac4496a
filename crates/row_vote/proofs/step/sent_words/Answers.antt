-- `row_vote::step::sent_words` meets its contract: the first j words are found.
use Rattle.std.specs.Prelude.{Some}
use mathlib.Core.Path.{ap}
use native.Mathlib.Omega.{arith}
use native.Mathlib.Nat.{not-suc-le-zero}
use lib.ListN.{get_or}
use borrow.Author.Rules.{rules}
use Rattle.ballot.proofs.BinLaws.{told-next, told-to}
use Rattle.row_vote.specs.Code.{sent_word}
use Rattle.row_vote.proofs.HeardLaws.{sent-read}
use Rattle.row_vote.proofs.step.sent_words.Goals as goal

pub loop-j-init : goal.loop-j-init
loop-j-init c =
    (search rules, search rules, search rules, search rules, search rules, λ i l. absurd (not-suc-le-zero l))

pub is_voted-requires : goal.is_voted-requires
is_voted-requires c = (c.requires.2 c.loop-j.j c.loop-j-test.true, c.loop-j.invariant.2)

pub bounds-cells-word_place : goal.bounds-cells-word_place
bounds-cells-word_place c = omega (arith, c.word_place.ensures, c.loop-j.invariant.1, c.loop-j.invariant.2, c.loop-j.invariant.3, c.loop-j-test.true)

pub loop-j-preserved : goal.loop-j-preserved
loop-j-preserved c =
    let l = c.loop-j in
    let i = l.invariant in
    let a = c.args in (
      search rules,
      i.1,
      i.2,
      i.3,
      search rules,
      told-next (λ k. Some (sent_word a.voted.now (λ k. get_or a.sent.now k 0) a.cells.now a.c k)) l.words l.j c.sent_word.result (omega (arith, i.1, i.4, c.loop-j-test.true))
          (ap Some (sent-read a.voted.now (λ k. get_or a.sent.now k 0) a.cells.now a.c l.j c.is_voted.ensures c.word_place.ensures c.sent_word.ensures))
          i.5,
    )

pub returns : goal.returns
returns c =
    let a = c.args in
    told-to (λ k. Some (sent_word a.voted.now (λ k. get_or a.sent.now k 0) a.cells.now a.c k)) c.loop-j.words c.loop-j.invariant.5 (omega arith)
