use mathlib.Core.Path.{◌≡◌, sym}
use native.Mathlib.Omega.{arith}
use borrow.Author.Rules.{rules}
use Rattle.array.proofs.PlacesLaws.{fill_none}
use Rattle.plan.specs.Limits.{most_frames}
use Rattle.plan_words.proofs.WordsReadLaws.{table-rule, frames-more}
use Rattle.plan_words.proofs.step.votes_in.Goals as goal

pub loop-g-init : goal.loop-g-init
loop-g-init c = (search rules, table-rule, sym (fill_none _ _))

pub frame_votes-requires : goal.frame_votes-requires
frame_votes-requires c = (search rules, c.loop-g.invariant.1)

pub loop-g-preserved : goal.loop-g-preserved
loop-g-preserved c = let loop = c.loop-g in (search rules, loop.invariant.1, frames-more _ loop.g _ c.frame_votes.ensures loop.invariant.2)

pub returns : goal.returns
returns c = let e : c.loop-g.g ≡ most_frames = omega arith in rw e at c.loop-g.invariant.2
