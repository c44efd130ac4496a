-- `lines::step::stopped` meets its contract.
use mathlib.Core.Path.{ap, ◌∙◌}
use Rattle.memory.specs.declared.Memory.{Memory}
use Rattle.system.specs.declared.System.{System}
use Rattle.lines.specs.Code.{printed_with}
use Rattle.lines.proofs.step.stopped.Goals as goal

pub returns : goal.returns
returns c = let a = c.args in
    λ sys h.
    ap (λ (y : System). printed_with a.refused a.count a.plan a.period y c.memory-single.result a.frame) (c.system-system.ensures sys h)
    ∙ ap (λ (m : Memory). printed_with a.refused a.count a.plan a.period sys m a.frame) c.memory-single.ensures
