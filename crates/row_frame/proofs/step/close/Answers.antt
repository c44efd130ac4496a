-- `row_frame::step::close` meets its contract: the phases one after another.
use mathlib.Core.Path.{◌∙◌}
use Rattle.rows.proofs.RowLaws.{through-then}
use Rattle.row_frame.proofs.step.close.Goals as goal

pub hand_on-requires : goal.hand_on-requires
hand_on-requires c =
    c.requires.4

pub returns : goal.returns
returns c =
    let vote = c.vote-agreement.ensures in
    let spoil = c.spoil.ensures in
    let seen = spoil.2 ∙ vote.3 in
    let good = spoil.1 ∙ vote.2 in
    (through-then vote.0 spoil.0, rw seen at c.hand_on.ensures, rw good at c.counts.ensures, c.are_words.ensures, vote.1)
