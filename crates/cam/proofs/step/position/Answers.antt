-- `cam::step::position` meets its contract: one way out for each case of the position.
use Rattle.std.proofs.Common.{sym, ◌∙◌}
use lib.Ieee.{of_bits}
use Rattle.cam.proofs.PositionLaws.{position_first, position-last, position-whole, whole-low, whole-high}
use Rattle.cam.proofs.step.position.Goals as goal

pub returns-then-not-x : goal.returns-then-not-x
unfolding of_bits
returns-then-not-x c = sym (position_first c.args.x c.if-not-x.true)

pub returns-then-x : goal.returns-then-x
unfolding of_bits
returns-then-x c = sym (position-last c.args.x c.if-not-x.false c.if-x.true)

pub truncating_f64_to_u64-requires : goal.truncating_f64_to_u64-requires
unfolding of_bits
truncating_f64_to_u64-requires c =
    let x = c.args.x in
    let e = c.if-not-x.false in
    record { lower_bound = whole-low x e; upper_bound = whole-high x e c.if-x.false }

pub returns : goal.returns
unfolding of_bits
returns c =
    c.truncating_f64_to_u64.ensures
    ∙ sym (position-whole c.args.x c.if-not-x.false c.if-x.false)
