-- `system_words::step::put_system` meets its contract: the first j counts are stored behind the memories, and behind them what is seen.
use mathlib.Core.Path.{◌≡◌, sym, ◌∙◌}
use native.Mathlib.Omega.{arith}
use borrow.Author.Rules.{rules}
use Rattle.system_words.proofs.RecordLaws.{stored-none, stored_more, stored-kept, system-put}
use Rattle.system_words.proofs.step.put_system.Goals as goal

pub loop-j-init : goal.loop-j-init
loop-j-init c = (search rules, search rules, sym (stored-none _ _ _))

pub loop-j-preserved : goal.loop-j-preserved
loop-j-preserved c = let loop = c.loop-j in (search rules, loop.invariant.1, stored_more _ _ _ loop.j loop.invariant.2 c.put_word.ensures)

pub shape_of-words : goal.shape_of-words
shape_of-words c = c.put_seen.auto.words ∙ stored-kept _ _ _ c.loop-j.j c.loop-j.invariant.2 ∙ c.put_memories.auto.words

pub returns : goal.returns
returns c = let e : c.loop-j.j ≡ c.args.nodes = omega (arith, c.loop-j-test.false) in
    system-put _ _ _ (rw (e, c.put_memories.ensures) at c.loop-j.invariant.2) c.put_seen.ensures
