use Rattle.limit.proofs.is_above.Goals as goal

pub returns : goal.returns
returns c = cc
