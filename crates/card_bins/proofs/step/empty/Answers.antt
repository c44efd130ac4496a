-- `card_bins::step::empty` meets its contract: the first j marks are 0.
use mathlib.Core.Path.{◌≡◌, sym, ap, ◌∙◌}
use Prim.Native.Nat.{◌-◌}
use native.Mathlib.Omega.{arith}
use lib.ListN.{length}
use Rattle.memory.proofs.StepLaws.{bin-ends}
use Rattle.card_bins.specs.Bins.{slot_size}
use Rattle.card_bins.proofs.StoreLaws.{emptied-length, emptied-none, emptied-more}
use Rattle.card_bins.proofs.step.empty.Goals as goal

pub loop-j-init : goal.loop-j-init
loop-j-init c = (omega arith, sym (emptied-none _ _))

pub slot_at-requires : goal.slot_at-requires
slot_at-requires c = (omega (arith, c.requires.0), c.requires.1)

pub bounds-bins-slot_at : goal.bounds-bins-slot_at
bounds-bins-slot_at c =
    omega (
      arith,
      c.slot_at.ensures,
      ap length c.loop-j.invariant.1,
      emptied-length c.args.cells c.loop-j.j c.args.bins.now,
      bin-ends c.loop-j.j (slot_size c.args.cells) c.loop-j-test.true c.requires.2,
    )

pub loop-j-preserved : goal.loop-j-preserved
loop-j-preserved c = (omega arith, emptied-more c.args.cells c.loop-j.j c.args.bins.now c.loop-j.invariant.1 c.slot_at.ensures)

pub shape_of-bins : goal.shape_of-bins
shape_of-bins c = ap length c.loop-j.invariant.1 ∙ emptied-length _ _ _

pub returns : goal.returns
returns c = let e : c.loop-j.j ≡ c.args.nodes = omega (arith, c.loop-j.invariant.0) in rw e at c.loop-j.invariant.1
