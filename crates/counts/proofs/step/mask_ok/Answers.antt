-- `counts::step::mask_ok` meets its contract: a mask shifted by the nodes is 0 where it is below 2 ^ nodes.
use Rattle.array.proofs.BitLaws.{mask_fits}
use Rattle.counts.proofs.step.mask_ok.Goals as goal

pub returns : goal.returns
returns c = mask_fits c.args.mask c.args.nodes
