use mathlib.Core.Path.{refl, sym, ◌∙◌}
use native.Mathlib.Omega.{arith}
use borrow.Author.Rules.{rules}
use Rattle.array.proofs.PlacesLaws.{fill_none}
use Rattle.array.proofs.LoopLaws.{stored_next, stored-all}
use Rattle.plan.specs.Limits.{most_actuators}
use Rattle.plan_words.proofs.WordsPutLaws.{filled-length, fill-own}
use Rattle.plan_words.proofs.step.put_actuators.Goals as goal

pub loop-i-init : goal.loop-i-init
loop-i-init c = (search rules, c.requires, sym (fill_none _ _))

pub bounds-out-i : goal.bounds-out-i
bounds-out-i c = omega (arith, filled-length _ _ _ c.loop-i.invariant.2, c.loop-i.invariant.1)

pub loop-i-preserved : goal.loop-i-preserved
loop-i-preserved c = (search rules, c.loop-i.invariant.1, stored_next _ _ _ c.loop-i.invariant.2 refl)

pub shape_of-out : goal.shape_of-out
shape_of-out c = filled-length _ _ _ c.loop-i.invariant.2

pub returns : goal.returns
returns c = stored-all _ _ _ c.loop-i.invariant.2 (omega arith) ∙ fill-own _ most_actuators _ c.loop-i.invariant.1
