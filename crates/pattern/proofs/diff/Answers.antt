use Rattle.pattern.specs.Pattern.{diff_of}
use Rattle.pattern.proofs.diff.Goals as goal

pub returns : goal.returns
unfolding diff_of
returns c = cc
