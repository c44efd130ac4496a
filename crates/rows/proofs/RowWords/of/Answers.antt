-- `rows::RowWords::of` meets its contract: the first j memories stand in their rows.
use mathlib.Core.Path.{◌≡◌, refl, ◌∙◌}
use native.Mathlib.Omega.{arith}
use lib.ListN.{length}
use borrow.Author.Rules.{rules}
use Rattle.plan.specs.Limits.{most_nodes, most_actuators}
use Rattle.array.proofs.LoopLaws.{any-default, length-mapped}
use Rattle.rows.proofs.RowLaws.{unpacked-none, unpacked-next, rows-unpacked}
use Rattle.rows.proofs.RowWords.of.Goals as goal

pub loop-j-init : goal.loop-j-init
loop-j-init c = (search rules, search rules, refl, unpacked-none c.args.system.memories _ _)

pub loop-j-preserved : goal.loop-j-preserved
loop-j-preserved c =
    let s = c.args.system in
    let l = c.loop-j in
    let i = l.invariant in
    let put = c.put_memory.ensures in
    let n : length s.memories ≡ most_nodes = search (rules, length-mapped) in
    (search rules, put.1 ∙ i.1, put.2 ∙ i.2, unpacked-next s.memories l.j i.3 put.0 (any-default s.memories l.j _ _ (omega (arith, c.loop-j-test.true))))

pub returns : goal.returns
returns c =
    let s = c.args.system in
    let i = c.loop-j.invariant in
    let n : length s.memories ≡ most_nodes = search (rules, length-mapped) in
    let m : length s.seen.handed ≡ most_actuators = search rules in
    rows-unpacked s n m i.1 i.2 i.3 (omega arith)
