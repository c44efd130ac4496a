-- `run_line::step::write_frame` meets its contract.
use Rattle.run_line.proofs.WritingLaws.{frame_row}
use Rattle.run_line.proofs.step.write_frame.Goals as goal

pub returns : goal.returns
returns c = frame_row c.args.out.now c.args.count c.requires.1 c.args.frame c.args.working c.args.equal c.args.values.now c.args.agreement c.put.ensures c.put-2.ensures c.put-3.ensures c.put_values.ensures
