use mathlib.Core.Path.{sym, ◌∙◌}
use native.Mathlib.Omega.{arith}
use borrow.Author.Rules.{rules}
use Rattle.array.proofs.PlacesLaws.{fill_none}
use Rattle.array.proofs.LoopLaws.{stored_next, stored-all}
use Rattle.plan.specs.Limits.{most_frames}
use Rattle.plan_words.proofs.WordsPutLaws.{filled-length, fill-each}
use Rattle.plan_words.proofs.step.put_votes.Goals as goal

pub loop-g-init : goal.loop-g-init
loop-g-init c = (search rules, c.requires, sym (fill_none _ _))

pub bounds-out-g : goal.bounds-out-g
bounds-out-g c = omega (arith, filled-length _ _ _ c.loop-g.invariant.2, c.loop-g.invariant.1)

pub loop-g-preserved : goal.loop-g-preserved
loop-g-preserved c = (search rules, c.loop-g.invariant.1, stored_next _ _ _ c.loop-g.invariant.2 c.vote_word.ensures)

pub shape_of-out : goal.shape_of-out
shape_of-out c = filled-length _ _ _ c.loop-g.invariant.2

pub returns : goal.returns
returns c = stored-all _ _ _ c.loop-g.invariant.2 (omega arith) ∙ fill-each _ most_frames _ c.loop-g.invariant.1
