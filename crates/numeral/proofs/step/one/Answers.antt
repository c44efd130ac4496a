-- `numeral::step::one` meets its contract.
use Rattle.std.proofs.Common.{le-leb}
use Rattle.numeral.proofs.NumeralLaws.{digit-yes, digit-no}
use Rattle.numeral.proofs.step.one.Goals as goal

pub returns-then-x-gt9 : goal.returns-then-x-gt9
returns-then-x-gt9 c = rw (digit-no c.args.b c.digit-x.ensures c.if-x-gt9.true)

pub returns : goal.returns
returns c =
    let b = c.args.b in
    let h = digit-yes b c.digit-x.ensures c.if-x-gt9.false in
    rw (le-leb 48 b h.0, le-leb b 57 h.1, h.2)
