use mathlib.Core.Path.{◌≡◌}
use Prim.Native.Nat.{◌≤◌, ℕ}
use lib.ListN.{replicate, get_or}
use Rattle.array.specs.Index.{fill}
use Rattle.plan.specs.Limits.{most_actuators}
use mathlib.Core.List.{List}
use Rattle.system.proofs.Seen.started.Given as goal

-- the initial pattern of the cell that the table has
abbrev pub entry : List ℕ → List ℕ → ℕ → ℕ
entry initial table a = get_or initial (get_or table a 0) 0

abbrev pub invariant-loop-a : goal.invariant-loop-a
invariant-loop-a l = (l.a ≤ l.actuators) × (l.handed ≡ fill (entry l.initial' l.table) l.a (replicate most_actuators 0))
