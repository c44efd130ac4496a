-- `system_words::step::put_seen` meets its contract: the first k values are stored.
use mathlib.Core.Path.{◌≡◌, sym}
use native.Mathlib.Omega.{arith}
use borrow.Author.Rules.{rules}
use Rattle.plan.specs.Limits.{most_actuators}
use Rattle.system_words.proofs.RecordLaws.{stored-none, stored_more, stored-kept}
use Rattle.system_words.proofs.step.put_seen.Goals as goal

pub loop-k-init : goal.loop-k-init
loop-k-init c = (search rules, sym (stored-none _ _ _))

pub loop-k-preserved : goal.loop-k-preserved
loop-k-preserved c = let loop = c.loop-k in (search rules, stored_more _ _ _ loop.k loop.invariant.1 c.put_word.ensures)

pub shape_of-words : goal.shape_of-words
shape_of-words c = stored-kept _ _ _ c.loop-k.k c.loop-k.invariant.1

pub returns : goal.returns
returns c = let e : c.loop-k.k ≡ most_actuators = omega arith in rw e at c.loop-k.invariant.1
