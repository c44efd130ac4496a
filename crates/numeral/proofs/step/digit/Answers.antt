-- `numeral::step::digit` meets its contract.
use Rattle.std.proofs.Common.{rules}
use Rattle.numeral.proofs.NumeralLaws.{digit-wraps}
use Rattle.numeral.proofs.step.digit.Goals as goal

pub returns : goal.returns
returns c = digit-wraps c.args.b (search rules) c.wrapping_sub_u64.ensures.value (search rules)
