-- `column::step::read_wide` meets its contract: a single digit shows what its byte shows.
use Rattle.std.proofs.Common.{ap, ◌∙◌}
use Rattle.numeral.specs.Numeral.{numeral_of}
use Rattle.column.specs.Column.{number_shown}
use Rattle.column.proofs.ReadingLaws.{numeral-one}
use Rattle.column.proofs.step.read_wide.Goals as goal

pub returns-then-d-eq1 : goal.returns-then-d-eq1
unfolding number_shown
returns-then-d-eq1 c = c.one.ensures ∙ numeral-one c.digits-d.result.now c.if-d-eq1.true ∙ ap numeral_of c.digits-d.ensures

pub returns : goal.returns
unfolding number_shown
returns c = c.numeral.ensures ∙ ap numeral_of c.digits-d.ensures
