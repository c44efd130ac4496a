-- `card_words::step::copy_bins` meets its contract: the first k bytes are stored.
use mathlib.Core.Path.{sym, ap, ◌∙◌}
use Prim.Native.Nat.{◌+◌, ◌-◌}
use native.Mathlib.Omega.{arith}
use native.Mathlib.Nat.{zero-add}
use lib.ListN.{length, get_or}
use Rattle.array.proofs.PlacesLaws.{fill_none, fill-length, fill-from}
use Rattle.array.proofs.PlacedLaws.{part_length, part-from}
use Rattle.array.proofs.LoopLaws.{stored_next, stored-all}
use Rattle.card.specs.Card.{most_bins}
use Rattle.card_words.proofs.step.copy_bins.Goals as goal

pub loop-k-init : goal.loop-k-init
loop-k-init c = (omega arith, sym (fill_none _ _))

pub bounds-bins-k : goal.bounds-bins-k
bounds-bins-k c = omega (arith, ap length c.loop-k.invariant.1, fill-length (λ i. get_or c.args.bytes.now (0 + i) 0) c.loop-k.k c.args.bins.now, c.requires)

pub loop-k-preserved : goal.loop-k-preserved
loop-k-preserved c = (omega arith, stored_next _ _ _ c.loop-k.invariant.1 (c.entry_or.ensures ∙ rw (zero-add c.loop-k.k)))

pub shape_of-bins : goal.shape_of-bins
shape_of-bins c = ap length c.loop-k.invariant.1 ∙ fill-length _ _ _

pub returns : goal.returns
returns c = stored-all _ _ _ c.loop-k.invariant.1 (omega (arith, c.loop-k.invariant.0)) ∙ fill-from 0 _ _ most_bins _ c.requires

pub copy_from_slice-requires : goal.copy_from_slice-requires
copy_from_slice-requires c = c.requires ∙ sym (part_length c.args.bytes.now 0 (most_bins - 0) most_bins (omega arith) (omega (arith, c.if-end-bytes.true)))

pub returns-then-end-bytes : goal.returns-then-end-bytes
returns-then-end-bytes c = c.copy_from_slice.ensures.after ∙ part-from c.args.bytes.now 0 (most_bins - 0) most_bins (omega arith) (omega (arith, c.if-end-bytes.true))
