-- `card_bins::step::mailbox` meets its contract: the first j bins are in place.
use mathlib.Core.Path.{◌≡◌}
use Prim.Native.Nat.{◌-◌}
use native.Mathlib.Omega.{arith}
use Rattle.memory.specs.Size.{bin_bytes}
use Rattle.memory.proofs.StepLaws.{bin-ends}
use Rattle.card_bins.specs.Bins.{slot_size}
use Rattle.card_bins.proofs.StoreLaws.{mailbox-none, mailbox-more, mailbox-fits}
use Rattle.card_bins.proofs.step.mailbox.Goals as goal

pub loop-j-init : goal.loop-j-init
loop-j-init c = (omega arith, mailbox-none _ _ _)

pub put_heard-requires : goal.put_heard-requires
put_heard-requires c = (
  omega (arith, c.requires.0),
  c.requires.1,
  bin-ends c.loop-j.j (slot_size c.args.cells) c.loop-j-test.true c.requires.2,
  omega (arith, bin-ends c.loop-j.j (bin_bytes c.args.cells) c.loop-j-test.true c.requires.3, mailbox-fits c.args.cells c.args.bins.now c.args.out.now c.loop-j.invariant.1 c.loop-j.invariant.0 c.requires.3),
)

pub loop-j-preserved : goal.loop-j-preserved
loop-j-preserved c = (omega arith, mailbox-more c.args.cells c.args.bins.now c.args.out.now c.loop-j.out _ c.loop-j.j c.loop-j.invariant.1 c.put_heard.ensures)

pub shape_of-out : goal.shape_of-out
shape_of-out c = mailbox-fits c.args.cells c.args.bins.now c.args.out.now c.loop-j.invariant.1 c.loop-j.invariant.0 c.requires.3

pub returns : goal.returns
returns c = let e : c.loop-j.j ≡ c.args.nodes = omega (arith, c.loop-j.invariant.0) in rw e at c.loop-j.invariant.1
