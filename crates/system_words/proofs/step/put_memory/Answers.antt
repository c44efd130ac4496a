-- `system_words::step::put_memory` meets its contract: the counter is stored, and the patterns are copied, or the first c stored one by one.
use mathlib.Core.Path.{◌≡◌, sym, ◌∙◌}
use Prim.Native.Nat.{◌+◌, ◌-◌}
use native.Mathlib.Omega.{arith}
use lib.ListN.{length}
use borrow.Author.Rules.{rules}
use Rattle.array.proofs.PlacedLaws.{part_length}
use Rattle.plan.specs.Limits.{most_cells}
use Rattle.system_words.proofs.RecordLaws.{stored-none, stored_more, stored-kept, memory-put, memory_copied}
use Rattle.system_words.proofs.step.put_memory.Goals as goal

pub slice_bounds-copy-start : goal.slice_bounds-copy-start
slice_bounds-copy-start c = omega arith

pub slice_bounds-copy-end-then-end-words : goal.slice_bounds-copy-end-then-end-words
slice_bounds-copy-end-then-end-words c = omega arith

pub copy-requires : goal.copy-requires
copy-requires c = let a = c.args in
    let n : length a.memory.cells ≡ most_cells = search rules in
    n ∙ sym (part_length c.put_word.new.words (a.at + 1) (a.at + 1 + most_cells - (a.at + 1)) most_cells (omega arith) (omega (arith, c.if-end-words.true)))

pub returns-then-end-words : goal.returns-then-end-words
returns-then-end-words c = memory_copied c.args.memory _ _ _ c.put_word.ensures (search rules) c.if-end-words.true c.copy.ensures

pub loop-c-init : goal.loop-c-init
loop-c-init c = (search rules, sym (stored-none _ _ _))

pub loop-c-preserved : goal.loop-c-preserved
loop-c-preserved c = let loop = c.loop-c in (search rules, stored_more _ _ _ loop.c loop.invariant.1 c.put_word-in-loop-c.ensures)

pub shape_of-words : goal.shape_of-words
shape_of-words c = stored-kept _ _ _ c.loop-c.c c.loop-c.invariant.1 ∙ c.put_word.auto.words

pub returns : goal.returns
returns c = let e : c.loop-c.c ≡ most_cells = omega arith in
    rw (e, c.put_word.ensures) at c.loop-c.invariant.1 ∙ memory-put _ _ _
