use mathlib.Core.Path.{◌≡◌}
use Rattle.array.specs.Index.{fill}
use Rattle.memory.specs.Node.{setpoint}
use Rattle.memory.proofs.step.setpoints.Given as goal

abbrev pub invariant-loop-i : goal.invariant-loop-i
invariant-loop-i l = l.out ≡ fill (setpoint l.plan l.memory) l.i l.initial.out
