-- `system_words::step::system` meets its contract: the first j memories and counts are read, then what is seen.
use mathlib.Core.Path.{sym}
use native.Mathlib.Omega.{arith}
use borrow.Author.Rules.{rules}
use Rattle.array.proofs.PlacesLaws.{fill_none}
use Rattle.array.proofs.LoopLaws.{stored_next, stored-all}
use Rattle.system_words.proofs.RecordLaws.{good-read, system-made}
use Rattle.system_words.proofs.step.system.Goals as goal

pub loop-j-init : goal.loop-j-init
loop-j-init c = (search rules, sym (fill_none _ _), sym (fill_none _ _))

pub loop-j-preserved : goal.loop-j-preserved
loop-j-preserved c = let inv = c.loop-j.invariant in
    (search rules, stored_next _ _ _ inv.1 c.memory-m.ensures, stored_next _ _ _ inv.2 (good-read _ _ c.entry_or.ensures c.at_most.ensures))

pub returns : goal.returns
returns c = let inv = c.loop-j.invariant in
    system-made _ c.zero_memory-zero.ensures (stored-all _ _ _ inv.1 (omega arith)) (stored-all _ _ _ inv.2 (omega arith)) c.seen.ensures
