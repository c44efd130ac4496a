-- `step::run` meets its contract: each part is read where it stands.
use Rattle.ragbasalt_listing.proofs.RunLaws.{run-made}
use Rattle.ragbasalt_listing.proofs.step.run.Goals as goal

pub returns : goal.returns
returns c = run-made _ _ c.entry_or-period.ensures c.system-system.ensures c.memory-single.ensures c.entry_or-frame.ensures
