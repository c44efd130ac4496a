-- `card_bins::step::is_filled` meets its contract.
use mathlib.Core.Path.{refl}
use Rattle.card_bins.proofs.StoreLaws.{filled_at}
use Rattle.card_bins.proofs.step.is_filled.Goals as goal

pub returns : goal.returns
returns c = filled_at c.args.cells c.args.bins.now c.args.j c.slot_at.ensures refl
