-- `array::step::copy` meets its contract: the first k words are stored.
use mathlib.Core.Path.{refl, sym, ap, ◌∙◌}
use Prim.Native.Nat.{◌-◌}
use native.Mathlib.Omega.{arith}
use lib.ListN.{length, get_or}
use Rattle.array.proofs.PlacesLaws.{fill_none, fill-length, fill-copied}
use Rattle.array.proofs.LoopLaws.{stored_next, stored-all}
use Rattle.array.proofs.step.copy.Goals as goal

pub loop-k-init : goal.loop-k-init
loop-k-init c = (refl, c.requires, omega arith, sym (fill_none _ _))

pub bounds-to-k : goal.bounds-to-k
bounds-to-k c = omega (arith, ap length c.loop-k.invariant.3, fill-length (λ i. get_or c.args.from.now i 0) c.loop-k.k c.args.to.now, c.loop-k.invariant.0, c.loop-k.invariant.1)

pub loop-k-preserved : goal.loop-k-preserved
loop-k-preserved c = (c.loop-k.invariant.0, c.loop-k.invariant.1, omega arith, stored_next _ _ _ c.loop-k.invariant.3 refl)

pub shape_of-to : goal.shape_of-to
shape_of-to c = ap length c.loop-k.invariant.3 ∙ fill-length _ _ _

pub returns : goal.returns
returns c =
    stored-all _ _ _ c.loop-k.invariant.3 (omega (arith, c.loop-k.invariant.2))
    ∙ fill-copied 0 c.args.from.now c.args.to.now _ (sym c.loop-k.invariant.0) (sym c.loop-k.invariant.1 ∙ sym c.loop-k.invariant.0)
