-- `history_masks::step::most_work` meets its contract: a bit of the table.
use mathlib.Core.Path.{refl}
use Rattle.array.specs.Bit.{bit}
use Rattle.history_masks.proofs.step.most_work.Goals as goal

pub returns : goal.returns
unfolding bit
returns c = refl
