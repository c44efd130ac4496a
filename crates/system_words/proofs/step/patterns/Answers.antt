-- `system_words::step::patterns` meets its contract: copied, or the first c read one by one.
use mathlib.Core.Path.{sym, ◌∙◌}
use Prim.Native.Nat.{◌+◌, ◌-◌}
use native.Mathlib.Omega.{arith}
use borrow.Author.Rules.{rules}
use Rattle.array.proofs.PlacesLaws.{fill_none, fill-from}
use Rattle.array.proofs.LoopLaws.{stored_next, stored-all}
use Rattle.plan.specs.Limits.{most_cells}
use Rattle.array.proofs.PlacedLaws.{part_length, part-from}
use Rattle.system_words.proofs.step.patterns.Goals as goal

pub overflow_add-end : goal.overflow_add-end
overflow_add-end c = omega arith

pub slice_bounds-copy-start : goal.slice_bounds-copy-start
slice_bounds-copy-start c = omega arith

pub slice_bounds-copy-end : goal.slice_bounds-copy-end
slice_bounds-copy-end c = omega arith

pub copy-requires : goal.copy-requires
copy-requires c = let a = c.args in
    part_length a.words.now a.at (a.at + most_cells - a.at) most_cells (omega arith) (omega (arith, c.if-end-words.true)) ∙ sym c.requires.1

pub returns-then-end-words : goal.returns-then-end-words
returns-then-end-words c = let a = c.args in
    c.copy.ensures ∙ part-from a.words.now a.at (a.at + most_cells - a.at) most_cells (omega arith) (omega (arith, c.if-end-words.true))

pub loop-c-init : goal.loop-c-init
loop-c-init c = (search rules, search rules, sym (fill_none _ _))

pub overflow_add-at : goal.overflow_add-at
overflow_add-at c = omega arith

pub loop-c-preserved : goal.loop-c-preserved
loop-c-preserved c = (search rules, search rules, stored_next _ _ _ c.loop-c.invariant.2 c.entry_or.ensures)

pub shape_of-cells : goal.shape_of-cells
shape_of-cells c = c.loop-c.invariant.1 ∙ sym c.requires.1

pub returns : goal.returns
returns c = stored-all _ _ _ c.loop-c.invariant.2 (omega arith) ∙ fill-from 0 _ _ most_cells _ c.requires.1
