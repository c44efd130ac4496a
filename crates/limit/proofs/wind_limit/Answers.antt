use Rattle.pattern.specs.Pattern.{wind_limit_of}
use Rattle.limit.proofs.wind_limit.Goals as goal

pub returns : goal.returns
unfolding wind_limit_of
returns c = cc
