-- `ballot::step::plane` meets its contract: what more than half put out most put out.
use mathlib.Core.Path.{sym, ◌∙◌}
use Rattle.ballot.specs.Code.{packed}
use Rattle.ballot.proofs.MajorityLaws.{majority-some}
use Rattle.ballot.proofs.PlaneLaws.{plane-of-most}
use Rattle.ballot.proofs.step.plane.Goals as goal

pub returns-in-Some : goal.returns-in-Some
returns-in-Some c =
    let a = c.args in
    let put = packed a.values.now a.k in
    let x = c.in-Some.x in
    sym (plane-of-most put a.k a.remembered x (majority-some put a.k x (sym c.majority.ensures ∙ c.in-Some.is)))
