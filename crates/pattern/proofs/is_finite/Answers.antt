use lib.Ieee.{nan_bits, of_bits, neg}
use Rattle.pattern.proofs.ConstantLaws.{finite-between}
use Rattle.pattern.proofs.is_finite.Goals as goal

pub float_from_bits-top : goal.float_from_bits-top
unfolding nan_bits
float_from_bits-top c = tt

pub returns : goal.returns
unfolding of_bits neg
returns c = finite-between _
