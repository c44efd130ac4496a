-- `frame::lengths_ok` meets its contract.
use Rattle.system.specs.FrameCall.{lengths_ok}
use Rattle.faults.proofs.LayoutLaws.{small-numbers}
use Rattle.frame.proofs.lengths_ok.Goals as goal

pub size-requires : goal.size-requires
size-requires c = small-numbers c.args.plan c.requires.0 c.sizes_with.ensures

pub returns : goal.returns
unfolding lengths_ok
returns c = rw (c.size.ensures, c.sizes_with.ensures)
