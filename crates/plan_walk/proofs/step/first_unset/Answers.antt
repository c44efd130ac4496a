use mathlib.Core.Path.{◌≡◌}
use native.Mathlib.Omega.{arith}
use borrow.Author.Rules.{rules}
use Rattle.array.proofs.BitLaws.{bit-clear}
use Rattle.plan_walk.proofs.WalkLaws.{unset-more}
use Rattle.plan_walk.proofs.step.first_unset.Goals as goal

pub loop-g-init : goal.loop-g-init
loop-g-init c = (search rules, search rules, λ k l m. absurd (omega arith))

pub returns-then-w-g-eq0 : goal.returns-then-w-g-eq0
returns-then-w-g-eq0 c =
    record { from = c.loop-g.invariant.0; to = search rules; passed = c.loop-g.invariant.2; stopped = λ h. bit-clear _ _ c.if-w-g-eq0.true }

pub loop-g-preserved : goal.loop-g-preserved
loop-g-preserved c = (search rules, search rules, unset-more _ _ _ c.loop-g.invariant.2 c.if-w-g-eq0.false)

pub returns : goal.returns
returns c =
    let e : c.loop-g.g ≡ c.args.high = omega arith in
    record { from = omega arith; to = search rules; passed = λ k l m. c.loop-g.invariant.2 k l (omega arith); stopped = λ h. absurd (omega arith) }
