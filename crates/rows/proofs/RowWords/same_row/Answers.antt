-- `rows::RowWords::same_row` meets its contract: the first c words are the same.
use mathlib.Core.Path.{refl}
use native.Mathlib.Omega.{arith}
use borrow.Author.Rules.{rules}
use Rattle.array.proofs.IndexLaws.{all_below-none}
use Rattle.rows.specs.Code.{memory_in, same_row}
use Rattle.rows.proofs.RowLaws.{words_same, words-differ, same-counter, same-cell, same-all, same_more}
use Rattle.rows.proofs.RowWords.same_row.Goals as goal

pub returns-then-self-r : goal.returns-then-self-r
unfolding same_row
returns-then-self-r c = same-counter c.args.width (memory_in c.args.self.now.counters c.args.self.now.cells c.args.r) (memory_in c.args.self.now.counters c.args.self.now.cells 0) c.if-self-r.true

pub loop-c-init : goal.loop-c-init
loop-c-init c = (search rules, search rules, search rules, all_below-none _)

pub returns-then-self-at : goal.returns-then-self-at
unfolding same_row
returns-then-self-at c = let a = c.args in
    same-cell a.width (memory_in a.self.now.counters a.self.now.cells a.r) (memory_in a.self.now.counters a.self.now.cells 0) c.loop-c.c c.loop-c-test.true (words-differ a.self.now.cells a.r c.loop-c.c refl (omega (arith, c.loop-c.invariant.1, c.loop-c-test.true)) c.if-self-at.true)

pub loop-c-preserved : goal.loop-c-preserved
loop-c-preserved c = let a = c.args in
    (search rules, search rules, search rules, same_more a.width (memory_in a.self.now.counters a.self.now.cells a.r) (memory_in a.self.now.counters a.self.now.cells 0) c.loop-c.c c.loop-c.invariant.3 (words_same a.self.now.cells a.r c.loop-c.c refl (omega (arith, c.loop-c.invariant.1, c.loop-c-test.true)) c.if-self-at.false))

pub returns : goal.returns
unfolding same_row
returns c = let a = c.args in
    same-all a.width (memory_in a.self.now.counters a.self.now.cells a.r) (memory_in a.self.now.counters a.self.now.cells 0) c.if-self-r.false c.loop-c.invariant.3 (omega arith)
