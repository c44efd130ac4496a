-- `system_words::step::memory` meets its contract.
use Rattle.system_words.proofs.RecordLaws.{memory-made}
use Rattle.system_words.proofs.step.memory.Goals as goal

pub returns : goal.returns
returns c = memory-made _ _ (rw c.entry_or.ensures at c.low-counter.ensures) c.patterns.ensures
