-- `column_write::step::put_blanks` meets its contract.
use Rattle.std.proofs.Common.{length-take-le}
use Rattle.column_write.proofs.step.put_blanks.Goals as goal

pub returns : goal.returns
returns c = rw (c.fill.ensures.after (λ y e. e), length-take-le c.args.n c.args.out.now c.requires)
