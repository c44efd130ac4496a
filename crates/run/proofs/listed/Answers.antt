-- `run::listed` meets its contract: no line is refused, or the line of the refusal follows.
use mathlib.Core.Path.{ap}
use native.Mathlib.Omega.{arith}
use Rattle.plan.proofs.AcceptedLaws.{shape-of-accepted}
use Rattle.lines.specs.declared.Printed.{Printed}
use Rattle.lines.proofs.BlockLaws.{laid-most, laid-room, laid_done, laid-refused}
use Rattle.run.proofs.listed.Goals as goal

pub returns-in_default : goal.returns-in_default
returns-in_default c =
    (ap (λ (y : Printed). y.refused) c.lines-r.ensures.0, laid_done c.args.run _ c.args.out.now _ c.lines-r.result c.requires.3 c.requires.7 c.lines-r.ensures.0 c.lines-r.ensures.3 c.in_default.is, c.lines-r.ensures.1, c.lines-r.ensures.2)

pub overflow_add-end : goal.overflow_add-end
overflow_add-end c =
    omega (arith, laid-most c.args.run _ c.args.out.now _ c.lines-r.result c.requires.3 c.requires.7 c.lines-r.ensures.0 c.lines-r.ensures.3, (shape-of-accepted c.args.run.plan c.requires.0).actuators-le)

pub slice_bounds-write_refusal-end : goal.slice_bounds-write_refusal-end
slice_bounds-write_refusal-end c =
    laid-room c.args.run _ c.args.out.now _ c.lines-r.result c.requires.3 c.requires.7 c.lines-r.ensures.0 c.lines-r.ensures.3

pub returns : goal.returns
returns c =
    (ap (λ (y : Printed). y.refused) c.lines-r.ensures.0, laid-refused c.args.run _ c.args.out.now _ c.lines-r.result c.requires.3 c.requires.7 c.lines-r.ensures.0 c.lines-r.ensures.3 _ c.in-Some.is c.write_refusal.ensures, c.lines-r.ensures.1, c.lines-r.ensures.2)
