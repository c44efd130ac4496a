-- `rows::RowWords::system` meets its contract: the first j memories are made.
use mathlib.Core.Path.{refl, sym}
use native.Mathlib.Omega.{arith}
use lib.ListN.{length-replicate}
use borrow.Author.Rules.{rules}
use Rattle.array.proofs.PlacesLaws.{fill_none}
use Rattle.plan.specs.Limits.{most_nodes}
use Rattle.array.proofs.LoopLaws.{stored_next, stored-all}
use Rattle.rows.proofs.RowLaws.{packed-is}
use Rattle.rows.proofs.RowWords.system.Goals as goal

pub loop-j-init : goal.loop-j-init
loop-j-init c = (search rules, sym (fill_none _ _))

pub loop-j-preserved : goal.loop-j-preserved
loop-j-preserved c = (search rules, stored_next _ _ _ c.loop-j.invariant.1 c.memory-m.ensures)

pub returns : goal.returns
returns c =
    let a = c.args in
    packed-is a.self.now.counters a.self.now.cells a.self.now.good a.self.now.seen (record { handed = a.self.now.seen }) _ _ refl
    (length-replicate most_nodes c.memory-first.result)
    (stored-all _ _ _ c.loop-j.invariant.1 (omega arith))
