use mathlib.Core.Path.{◌≡◌}
use mathlib.Core.Bool.{true}
use Prim.Native.Nat.{◌≤◌, ◌-◌}
use Rattle.array.specs.Index.{all_below}
use Rattle.plan.specs.Accepted.{task_entry}
use Rattle.plan.proofs.EntryLaws.{Before}
use Rattle.plan_form.proofs.tasks_ok.Given as goal

abbrev pub invariant-loop-k : goal.invariant-loop-k
invariant-loop-k l = (l.k ≤ 64) × (all_below (task_entry l.p) l.k ≡ true) × Before l.p l.k l.last
