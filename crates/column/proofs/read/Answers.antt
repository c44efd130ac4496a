-- `column::read` meets its contract: what its calls ensure, one after the other.
use Rattle.std.proofs.Common.{ap, ◌∙◌}
use Rattle.numeral.specs.Numeral.{numeral_of}
use Rattle.column.specs.Column.{number_shown}
use Rattle.column.proofs.ReadingLaws.{digits-few}
use Rattle.column.proofs.read.Goals as goal

pub returns-then-is_wide : goal.returns-then-is_wide
unfolding number_shown
returns-then-is_wide c = c.numeral.ensures ∙ ap numeral_of c.digits-d.ensures

pub few-requires : goal.few-requires
few-requires c =
    let a = c.args in
    rw c.digits-d.ensures (digits-few a.line.now a.from a.to (c.is_wide.ensures.1 c.if-is_wide.false))

pub returns : goal.returns
unfolding number_shown
returns c = c.few.ensures ∙ ap numeral_of c.digits-d.ensures
