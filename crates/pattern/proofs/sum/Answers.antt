use Rattle.pattern.specs.Pattern.{sum_of}
use Rattle.pattern.proofs.sum.Goals as goal

pub returns : goal.returns
unfolding sum_of
returns c = cc
