-- `plan_writer::step::write_line` meets its contract: the six columns and the line feed lie one behind the other.
use Prim.Native.Nat.{◌*◌}
use Rattle.plan_writer.proofs.WriterLaws.{line-filled}
use Rattle.plan_writer.proofs.step.write_line.Goals as goal

pub shape_of-out : goal.shape_of-out
shape_of-out c =
    let l = c.args.l in
    let w1 = c.put in
    let w2 = c.put-2 in
    let w3 = c.put-3 in
    let w4 = c.put-4 in
    let w5 = c.put-5 in
    let w6 = c.put-6 in
    (line-filled c.args.out.now (57 * c.args.i) l.kind l.second l.third l.fourth l.fifth l.sixth w1.new.out w2.new.out w3.new.out w4.new.out w5.new.out w6.new.out c.requires.0 w1.ensures w2.ensures w3.ensures w4.ensures w5.ensures w6.ensures).same

pub returns : goal.returns
returns c =
    let l = c.args.l in
    let w1 = c.put in
    let w2 = c.put-2 in
    let w3 = c.put-3 in
    let w4 = c.put-4 in
    let w5 = c.put-5 in
    let w6 = c.put-6 in
    (line-filled c.args.out.now (57 * c.args.i) l.kind l.second l.third l.fourth l.fifth l.sixth w1.new.out w2.new.out w3.new.out w4.new.out w5.new.out w6.new.out c.requires.0 w1.ensures w2.ensures w3.ensures w4.ensures w5.ensures w6.ensures).ended
