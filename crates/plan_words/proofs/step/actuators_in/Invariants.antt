-- `plan_words::step::actuators_in` meets its contract: the first i cells are copied.
use mathlib.Core.Path.{◌≡◌}
use Prim.Native.Nat.{◌+◌, ◌≤◌}
use lib.ListN.{get_or}
use Rattle.array.specs.Index.{fill}
use Rattle.plan.specs.Limits.{most_actuators}
use Rattle.plan_words.specs.Words.{actuators_at}
use Rattle.plan_words.proofs.step.actuators_in.Given as goal

abbrev pub invariant-loop-i : goal.invariant-loop-i
invariant-loop-i l = (l.i ≤ most_actuators) × (l.table ≡ fill (λ x. get_or l.words (actuators_at + x) 0) l.i l.initial.table)
