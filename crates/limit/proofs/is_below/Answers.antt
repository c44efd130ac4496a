use Rattle.limit.proofs.is_below.Goals as goal

pub returns : goal.returns
returns c = cc
