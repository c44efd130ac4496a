-- `plan_words::step::put_tasks` meets its contract: the numbers of the first k tasks lie one behind the other.
use mathlib.Core.Path.{◌≡◌}
use Prim.Native.Nat.{◌*◌, ◌≤◌}
use lib.ListN.{length}
use Rattle.array.specs.Index.{joined}
use Rattle.column.proofs.BufferLaws.{Laid}
use Rattle.plan.specs.Limits.{most_tasks}
use Rattle.plan.specs.Tables.{task_at}
use Rattle.plan_grammar.specs.Written.{task_line}
use Rattle.plan_words.specs.Words.{task_size}
use Rattle.plan_words.proofs.step.put_tasks.Given as goal

abbrev pub invariant-loop-k : goal.invariant-loop-k
invariant-loop-k l = (l.k ≤ most_tasks) × (length l.initial.out ≡ task_size * most_tasks) × Laid l.initial.out 0 (task_size * l.k) (joined (λ j. task_line (task_at l.plan j)) l.k) l.out
