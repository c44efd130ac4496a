-- `system_words::step::put_memories` meets its contract: the words of the first j memories are stored.
use mathlib.Core.Path.{◌≡◌, sym, ap, ◌∙◌}
use native.Mathlib.Omega.{arith}
use lib.ListN.{length}
use borrow.Author.Rules.{rules}
use Rattle.array.proofs.LoopLaws.{any-default, length-mapped}
use Rattle.plan.specs.Limits.{most_nodes}
use Rattle.system_words.proofs.RecordLaws.{memories-none, memories-more, memories-length}
use Rattle.system_words.proofs.step.put_memories.Goals as goal

pub loop-j-init : goal.loop-j-init
loop-j-init c = (search rules, search rules, sym (memories-none _ _))

pub loop-j-preserved : goal.loop-j-preserved
loop-j-preserved c = let loop = c.loop-j in
    let memories = c.args.system.memories in
    let n : length memories ≡ most_nodes = search (rules, length-mapped) in
    (search rules, loop.invariant.1, memories-more _ _ loop.j loop.invariant.2 (any-default memories loop.j _ _ (omega (arith, n, c.loop-j-test.true, loop.invariant.1))) c.put_memory.ensures)

pub shape_of-words : goal.shape_of-words
shape_of-words c = ap length c.loop-j.invariant.2 ∙ memories-length _ _ c.loop-j.j

pub returns : goal.returns
returns c = let e : c.loop-j.j ≡ c.args.nodes = omega arith in rw e at c.loop-j.invariant.2
