-- `row_frame::step::fault_row` meets its contract: the first c words are read.
use mathlib.Core.Path.{sym, ◌∙◌}
use native.Mathlib.Omega.{arith}
use borrow.Author.Rules.{rules}
use Rattle.array.proofs.LoopLaws.{stored_next, stored-all}
use Rattle.array.proofs.PlacesLaws.{fill_none}
use Rattle.row_frame.proofs.step.fault_row.Goals as goal

pub loop-c-init : goal.loop-c-init
loop-c-init c = (search rules, search rules, sym (fill_none _ _))

pub loop-c-preserved : goal.loop-c-preserved
loop-c-preserved c = (search rules, search rules, stored_next _ _ _ c.loop-c.invariant.2 (c.read_be8.ensures ∙ rw c.cell_at.ensures))

pub returns : goal.returns
returns c = stored-all _ _ _ c.loop-c.invariant.2 (omega arith)
