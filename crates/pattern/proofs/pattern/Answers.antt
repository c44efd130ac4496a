use lib.Ieee.{to_bits}
use lib.Ieee.Compare.{differs_from_itself}
use Rattle.pattern.proofs.FloatLaws.{holds, same-no-nan}
use Rattle.pattern.proofs.pattern.Goals as goal

pub returns-then-x : goal.returns-then-x
unfolding to_bits
returns-then-x c = simp (differs_from_itself _ (holds c.if-x.true))

pub float_to_bits-result : goal.float_to_bits-result
float_to_bits-result c = same-no-nan _ c.if-x.false
