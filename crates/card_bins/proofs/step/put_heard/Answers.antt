-- `card_bins::step::put_heard` meets its contract: the message of a filled bin, zeros for an empty one.
use mathlib.Core.Path.{refl, sym, ap, ◌∙◌}
use Prim.Native.Nat.{ℕ, ◌+◌, ◌-◌}
use native.Mathlib.Omega.{arith}
use lib.ListN.{replicate}
use Rattle.array.proofs.PlacedLaws.{part_length}
use Rattle.card_bins.proofs.StoreLaws.{heard-copied, heard-cleared}
use Rattle.card_bins.proofs.step.put_heard.Goals as goal

pub returns-then-is_filled : goal.returns-then-is_filled
returns-then-is_filled c =
    let at = c.bin_at-at.result in
    let size = c.message_size-size.result in
    let first = c.slot_at-first.result + 1 in
    heard-copied c.args.cells c.args.bins.now c.args.out.now _ c.args.j at (at + size - at) first (first + size - first) (sym c.is_filled.ensures ∙ c.if-is_filled.true) c.bin_at-at.ensures
    (omega (arith, c.message_size-size.ensures)) (rw c.slot_at-first.ensures) (omega (arith, c.message_size-size.ensures)) (omega (arith, c.slot_at-first.ensures, c.message_size-size.ensures, c.requires.2)) c.copy_from_slice.ensures.after

pub returns-else-is_filled : goal.returns-else-is_filled
returns-else-is_filled c =
    let at = c.bin_at-at.result in
    let size = c.message_size-size.result in
    heard-cleared c.args.cells c.args.bins.now c.args.out.now _ c.args.j at (at + size - at) (sym c.is_filled.ensures ∙ c.if-is_filled.false) c.bin_at-at.ensures
    (omega (arith, c.message_size-size.ensures)) (c.fill.ensures.after (λ y e. e) ∙ ap (λ (n : ℕ). replicate n 0) (part_length c.args.out.now at (at + size - at) (at + size - at) refl (omega (arith, c.bin_at-at.ensures, c.message_size-size.ensures, c.requires.3))))
