-- `ragbasalt_faults_size` meets its contract: a result for each way out.
use mathlib.Core.Path.{sym, ◌∙◌}
use Rattle.plan.specs.Sizes.{sizes_of}
use Rattle.system.specs.Fault.{faults_size}
use Rattle.plan_period.proofs.AnswerLaws.{accepted-of-period}
use Rattle.faults.proofs.LayoutLaws.{small-numbers}
use Rattle.ragbasalt_plan.proofs.SizeLaws.{size_none, size-given}
use Rattle.ragbasalt_plan.proofs.ragbasalt_faults_size.Goals as goal

pub returns-in_default : goal.returns-in_default
returns-in_default c = size_none (λ p. faults_size (sizes_of p)) c.plan-p.ensures (sym c.recovery_period.ensures ∙ c.in_default.is)

pub size-requires : goal.size-requires
size-requires c = small-numbers _ (accepted-of-period _ (sym c.recovery_period.ensures ∙ c.in-Ok.is)) c.sizes_with-sizes.ensures

pub returns : goal.returns
returns c = size-given (λ p. faults_size (sizes_of p)) c.plan-p.ensures (accepted-of-period _ (sym c.recovery_period.ensures ∙ c.in-Ok.is)) (rw c.sizes_with-sizes.ensures at c.size.ensures)
