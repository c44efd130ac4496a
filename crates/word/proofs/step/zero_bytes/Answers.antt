-- `word::step::zero_bytes` meets its contract: eight trailing zero bits are a byte.
use native.Mathlib.Omega.{arith}
use lib.Count.{trailing_le}
use Rattle.word.proofs.ZeroLaws.{zeros-of-trailing}
use Rattle.word.proofs.step.zero_bytes.Goals as goal

pub overflow_cast-result : goal.overflow_cast-result
overflow_cast-result c = omega (arith, trailing_le 64 c.args.w)

pub returns : goal.returns
returns c = zeros-of-trailing 8 c.args.w
