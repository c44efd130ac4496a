-- `ragbasalt_text_size` meets its contract: a result for each way out.
use mathlib.Core.Path.{sym, ◌∙◌}
use lib.ListN.{length}
use Rattle.plan_grammar.specs.Written.{plan_text}
use Rattle.plan_period.proofs.AnswerLaws.{accepted-of-period}
use Rattle.ragbasalt_plan.proofs.SizeLaws.{size_none, size-given}
use Rattle.ragbasalt_plan.proofs.ragbasalt_text_size.Goals as goal

pub returns-in_default : goal.returns-in_default
returns-in_default c = size_none (λ p. length (plan_text p)) c.plan-p.ensures (sym c.recovery_period.ensures ∙ c.in_default.is)

pub text_size-requires : goal.text_size-requires
text_size-requires c = accepted-of-period _ (sym c.recovery_period.ensures ∙ c.in-Ok.is)

pub returns : goal.returns
returns c = size-given (λ p. length (plan_text p)) c.plan-p.ensures (accepted-of-period _ (sym c.recovery_period.ensures ∙ c.in-Ok.is)) c.text_size.ensures
