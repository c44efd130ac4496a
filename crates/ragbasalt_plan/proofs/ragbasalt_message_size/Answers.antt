-- `ragbasalt_message_size` meets its contract: a result for each way out.
use mathlib.Core.Path.{sym, ◌∙◌}
use Rattle.plan.proofs.AcceptedLaws.{shape-of-accepted}
use Rattle.memory.specs.Size.{message_size}
use Rattle.plan_period.proofs.AnswerLaws.{accepted-of-period}
use Rattle.ragbasalt_plan.proofs.SizeLaws.{size_none, size-given}
use Rattle.ragbasalt_plan.proofs.ragbasalt_message_size.Goals as goal

pub returns-in_default : goal.returns-in_default
returns-in_default c = size_none message_size c.plan-p.ensures (sym c.recovery_period.ensures ∙ c.in_default.is)

pub message_size-requires : goal.message_size-requires
message_size-requires c = (shape-of-accepted _ (accepted-of-period _ (sym c.recovery_period.ensures ∙ c.in-Ok.is))).cells-le

pub returns : goal.returns
returns c = size-given message_size c.plan-p.ensures (accepted-of-period _ (sym c.recovery_period.ensures ∙ c.in-Ok.is)) c.message_size.ensures
