use Rattle.system.proofs.System.zero.Goals as goal

pub returns : goal.returns
returns c = rw c.zero_memory-memory.ensures
