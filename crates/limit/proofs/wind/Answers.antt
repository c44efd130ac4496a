use Rattle.pattern.specs.Pattern.{wind_of}
use Rattle.limit.proofs.wind.Goals as goal

pub returns : goal.returns
unfolding wind_of
returns c = rw (c.wind_limit.ensures, c.pattern.ensures, c.value.ensures, c.value-2.ensures)
