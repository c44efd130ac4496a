use mathlib.Core.Path.{sym, ◌∙◌}
use native.Mathlib.Omega.{arith}
use borrow.Author.Rules.{rules}
use borrow.Author.Tests.{eq-eqb, ne_eqb}
use Rattle.array.proofs.IndexLaws.{all_below-none, all_below-more, all_below-fails}
use Rattle.array.proofs.LoopLaws.{all-passed}
use Rattle.plan.specs.Limits.{most_frames}
use Rattle.plan_words.proofs.WordsReadLaws.{vote-tested}
use Rattle.plan_words.proofs.step.votes_ok.Goals as goal

pub loop-g-init : goal.loop-g-init
loop-g-init c = (search rules, all_below-none _)

pub returns-then-words-g-ne0 : goal.returns-then-words-g-ne0
returns-then-words-g-ne0 c = sym (all_below-fails _ most_frames c.loop-g.g (omega arith) (vote-tested _ _ ∙ ne_eqb _ _ c.if-words-g-ne0.true))

pub loop-g-preserved : goal.loop-g-preserved
loop-g-preserved c = let loop = c.loop-g in (search rules, all_below-more _ loop.g loop.invariant.1 (vote-tested _ _ ∙ eq-eqb _ _ c.if-words-g-ne0.false))

pub returns : goal.returns
returns c = sym (all-passed _ c.loop-g.invariant.1 (omega arith))
