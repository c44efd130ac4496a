-- `histories::write_history` meets its contract: three columns and a line feed.
use Rattle.histories.proofs.ListingLaws.{history-row, history-size}
use Rattle.histories.proofs.write_history.Goals as goal

pub shape_of-out : goal.shape_of-out
shape_of-out c =
    history-size c.args.out.now c.args.first c.args.second c.args.third c.requires c.put.ensures c.put-2.ensures c.put-3.ensures

pub returns : goal.returns
returns c =
    history-row c.args.out.now c.args.first c.args.second c.args.third c.requires c.put.ensures c.put-2.ensures c.put-3.ensures
