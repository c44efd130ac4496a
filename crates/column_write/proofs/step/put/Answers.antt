-- `column_write::step::put` meets its contract.
use Rattle.column.proofs.BufferLaws.{put-placed}
use Rattle.column_write.proofs.step.put.Goals as goal

pub returns : goal.returns
returns c =
    put-placed c.args.out.now c.write.new.out c.args.at c.args.width c.args.v c.requires.0 c.write.ensures
