use mathlib.Core.Path.{refl, sym}
use native.Mathlib.Omega.{arith}
use Rattle.array.proofs.PlacesLaws.{fill_none}
use Rattle.array.proofs.LoopLaws.{stored_next, stored-all}
use borrow.Author.Rules.{rules}
use Rattle.plan_words.proofs.step.actuators_in.Goals as goal

pub loop-i-init : goal.loop-i-init
loop-i-init c = (search rules, sym (fill_none _ _))

pub loop-i-preserved : goal.loop-i-preserved
loop-i-preserved c = (search rules, stored_next _ _ _ c.loop-i.invariant.1 refl)

pub returns : goal.returns
returns c = stored-all _ _ _ c.loop-i.invariant.1 (omega arith)
