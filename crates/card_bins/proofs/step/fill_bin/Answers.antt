-- `card_bins::step::fill_bin` meets its contract: the mark, then the message behind it.
use mathlib.Core.Path.{ap, ◌∙◌}
use Prim.Native.Nat.{◌+◌, ◌-◌}
use native.Mathlib.Omega.{arith}
use lib.ListN.{length, length-set}
use Rattle.card_bins.proofs.StoreLaws.{filled_is, filled-length}
use Rattle.card_bins.proofs.step.fill_bin.Goals as goal

pub slice_bounds-copy_from_slice-end : goal.slice_bounds-copy_from_slice-end
slice_bounds-copy_from_slice-end c = omega (arith, c.slot_at-at.ensures, c.message_size.ensures, c.requires.2, length-set c.args.bins.now c.slot_at-at.result 1)

pub returns : goal.returns
returns c =
    filled_is c.args.cells c.args.bins.now c.args.message.now _ c.args.number c.slot_at-at.result (c.slot_at-at.result + 1 + c.message_size.result - (c.slot_at-at.result + 1)) c.slot_at-at.ensures c.copy_from_slice.ensures.after c.requires.3
    (omega (arith, c.message_size.ensures)) (omega (arith, c.slot_at-at.ensures, c.requires.2))

pub shape_of-bins : goal.shape_of-bins
shape_of-bins c = ap length (returns c) ∙ filled-length c.args.cells c.args.bins.now c.args.message.now c.args.number c.requires.3 c.requires.2
