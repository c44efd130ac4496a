-- `step::put_run` meets its contract: each part is stored where it stands.
use Rattle.ragbasalt_listing.proofs.RunLaws.{run-put}
use Rattle.ragbasalt_listing.proofs.step.put_run.Goals as goal

pub returns : goal.returns
returns c = run-put _ _ _ c.put_system.ensures c.put_memory.ensures c.put_word.ensures c.put_word-2.ensures
