-- `plan_period::recovery_period` meets its contract: a record is accepted where it is of form and has a period.
use mathlib.Core.Path.{◌≡◌, refl, sym, ap, ◌∙◌}
use mathlib.Core.Bool.{true}
use Prim.Native.Nat.{ℕ, zero, suc}
use native.Mathlib.Omega.{arith}
use Rattle.std.specs.Prelude.{Ok, ok_or}
use Rattle.answer.specs.declared.Refusal.TheVariants.{InvalidPlan}
use Rattle.plan.specs.declared.Plan.{Plan}
use Rattle.plan.specs.Known.{period}
use Rattle.plan.specs.Accepted.{well_formed}
use Rattle.plan_period.specs.Answers.{period_found, if_any}
use Rattle.plan_period.proofs.AnswerLaws.{period-accepted, period-refused, well_formed-none, none-accepted, some-accepted}
use Rattle.plan_period.proofs.recovery_period.Goals as goal

pub period-requires : goal.period-requires
period-requires c = sym c.well_formed-2.ensures ∙ c.if-not-well_formed.false

pub returns-then-not-well_formed : goal.returns-then-not-well_formed
returns-then-not-well_formed c = sym (period-refused c.args.plan (well_formed-none c.args.plan (sym c.well_formed-2.ensures ∙ c.if-not-well_formed.true)))

-- a count as an answer: refused where there is none
period-answer : (p : Plan) → well_formed p ≡ true → ok_or (if_any (period p)) InvalidPlan ≡ period_found p
period-answer p w = case (period p) refl
  where
    case : (n : ℕ) → period p ≡ n → ok_or (if_any n) InvalidPlan ≡ period_found p
    case zero z = sym (period-refused p (none-accepted p z))
    case (suc k) z = ap Ok (sym z) ∙ sym (period-accepted p (some-accepted p w (omega (arith, z))))

pub returns : goal.returns
returns c = c.ok_or.ensures.value ∙ ap (λ o. ok_or o InvalidPlan) c.period.ensures ∙ period-answer c.args.plan (sym c.well_formed-2.ensures ∙ c.if-not-well_formed.false)
