use Rattle.pattern.specs.Pattern.{scale_of}
use Rattle.pattern.proofs.scale.Goals as goal

pub returns : goal.returns
unfolding scale_of
returns c = cc
