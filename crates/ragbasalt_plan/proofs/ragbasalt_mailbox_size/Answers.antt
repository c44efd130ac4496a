-- `ragbasalt_mailbox_size` meets its contract: a result for each way out.
use mathlib.Core.Path.{sym, ◌∙◌}
use Rattle.plan.proofs.AcceptedLaws.{shape-of-accepted}
use Rattle.memory.specs.Size.{mailbox_size}
use Rattle.plan_period.proofs.AnswerLaws.{accepted-of-period}
use Rattle.ragbasalt_plan.proofs.SizeLaws.{size_none, size-given}
use Rattle.ragbasalt_plan.proofs.ragbasalt_mailbox_size.Goals as goal

pub returns-in_default : goal.returns-in_default
returns-in_default c = size_none mailbox_size c.plan-p.ensures (sym c.recovery_period.ensures ∙ c.in_default.is)

pub bin_at-requires : goal.bin_at-requires
bin_at-requires c = let t = shape-of-accepted _ (accepted-of-period _ (sym c.recovery_period.ensures ∙ c.in-Ok.is)) in (t.nodes-high, t.cells-le)

pub returns : goal.returns
returns c = size-given mailbox_size c.plan-p.ensures (accepted-of-period _ (sym c.recovery_period.ensures ∙ c.in-Ok.is)) c.bin_at.ensures
