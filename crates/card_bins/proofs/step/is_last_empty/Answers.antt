-- `card_bins::step::is_last_empty` meets its contract.
use native.Mathlib.Omega.{arith}
use mathlib.Core.Path.{◌∙◌, sym}
use Rattle.memory.proofs.StepLaws.{bin-ends}
use Rattle.card_bins.specs.Bins.{slot_size}
use Rattle.card_bins.proofs.StoreLaws.{last-filled, last_empty_lem}
use Rattle.card_bins.proofs.step.is_last_empty.Goals as goal

pub is_filled-requires : goal.is_filled-requires
is_filled-requires c = (omega (arith, c.requires.0, c.requires.2), c.requires.1, omega (arith, bin-ends c.args.number (slot_size c.args.cells) c.requires.2 c.requires.3))

pub returns-then-is_filled : goal.returns-then-is_filled
returns-then-is_filled c = last-filled c.args.cells c.args.nodes c.args.bins.now c.args.number (sym c.is_filled.ensures ∙ c.if-is_filled.true)

pub returns : goal.returns
returns c = last_empty_lem c.args.cells c.args.nodes c.args.bins.now c.args.number (sym c.is_filled.ensures ∙ c.if-is_filled.false) c.others_filled.ensures
