-- `plan_words::step::put_actuators` meets its contract: the first i entries are copied.
use mathlib.Core.Path.{◌≡◌}
use Prim.Native.Nat.{◌≤◌}
use lib.ListN.{length, get_or}
use Rattle.array.specs.Index.{fill}
use Rattle.plan.specs.Limits.{most_actuators}
use Rattle.plan_words.proofs.step.put_actuators.Given as goal

abbrev pub invariant-loop-i : goal.invariant-loop-i
invariant-loop-i l = (l.i ≤ most_actuators) × (length l.initial.out ≡ most_actuators) × (l.out ≡ fill (λ x. get_or l.table x 0) l.i l.initial.out)
