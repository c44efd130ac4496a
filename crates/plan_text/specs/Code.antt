-- The code's own: a plan with the period that the last test on its text finds. No definition of document 01 cites this.
use Rattle.std.specs.Prelude.{List, ℕ, Result}
use Rattle.answer.specs.declared.Refusal.{Refusal}
use Rattle.answer.specs.Tests.{unless}
use Rattle.plan.specs.Known.{period}
use Rattle.plan_grammar.specs.Meant.{plan_of}
use Rattle.plan_grammar.specs.Refused.{text_refusal}
use Rattle.plan_text.specs.declared.PlanRead.{PlanRead}

unfoldable pub plan_found : List ℕ → Result PlanRead Refusal
plan_found s = unless (text_refusal s) (record { plan = plan_of s; period = period (plan_of s) })
