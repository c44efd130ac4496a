-- `system_words::step::seen` meets its contract: the first a values are read.
use mathlib.Core.Path.{sym, ◌∙◌}
use Prim.Native.Nat.{ℕ}
use native.Mathlib.Omega.{arith}
use lib.ListN.{length-replicate}
use borrow.Author.Rules.{rules}
use Rattle.array.proofs.PlacesLaws.{fill_none, fill-from}
use Rattle.array.proofs.LoopLaws.{stored_next, stored-all}
use Rattle.plan.specs.Limits.{most_actuators}
use Rattle.system_words.proofs.step.seen.Goals as goal

pub loop-a-init : goal.loop-a-init
loop-a-init c = (search rules, sym (fill_none _ _))

pub loop-a-preserved : goal.loop-a-preserved
loop-a-preserved c = (search rules, stored_next _ _ _ c.loop-a.invariant.1 c.entry_or.ensures)

pub returns : goal.returns
returns c = stored-all _ _ _ c.loop-a.invariant.1 (omega arith) ∙ fill-from 0 _ _ most_actuators _ (length-replicate {A = ℕ} most_actuators 0)
