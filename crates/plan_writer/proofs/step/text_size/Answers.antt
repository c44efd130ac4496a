-- `plan_writer::step::text_size` meets its contract: 57 bytes for each line of an accepted record, of which there are at most 617.
use native.Mathlib.Omega.{arith}
use Rattle.plan.proofs.AcceptedLaws.{shape-of-accepted}
use Rattle.plan_grammar.proofs.WrittenLaws.{text-length}
use Rattle.plan_writer.proofs.step.text_size.Goals as goal

pub overflow_add-result : goal.overflow_add-result
overflow_add-result c =
    let s = shape-of-accepted c.args.plan c.requires in omega (arith, s.cells-le, s.tasks-le, s.actuators-le)

pub overflow_add-result-2 : goal.overflow_add-result-2
overflow_add-result-2 c =
    let s = shape-of-accepted c.args.plan c.requires in omega (arith, s.cells-le, s.tasks-le, s.actuators-le)

pub overflow_add-result-3 : goal.overflow_add-result-3
overflow_add-result-3 c =
    let s = shape-of-accepted c.args.plan c.requires in omega (arith, s.cells-le, s.tasks-le, s.actuators-le)

pub overflow_add-result-4 : goal.overflow_add-result-4
overflow_add-result-4 c =
    let s = shape-of-accepted c.args.plan c.requires in omega (arith, s.cells-le, s.tasks-le, s.actuators-le)

pub overflow_mul-result : goal.overflow_mul-result
overflow_mul-result c =
    let s = shape-of-accepted c.args.plan c.requires in omega (arith, s.cells-le, s.tasks-le, s.actuators-le)

pub returns : goal.returns
returns c = omega (arith, text-length c.args.plan, c.count_votes-votes.ensures)
