-- What the call that reads a plan text gives.
use Rattle.std.specs.Prelude.{List, ℕ, Result}
use Rattle.answer.specs.declared.Refusal.{Refusal}
use Rattle.answer.specs.Tests.{unless}
use Rattle.plan.specs.declared.Plan.{Plan}
use Rattle.plan_grammar.specs.Meant.{plan_of}
use Rattle.plan_grammar.specs.Refused.{text_refusal}

-- the plan, or the refusal
unfoldable pub read_answer : List ℕ → Result Plan Refusal
read_answer s = unless (text_refusal s) (plan_of s)
