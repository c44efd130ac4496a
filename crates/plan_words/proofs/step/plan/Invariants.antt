use mathlib.Core.Path.{◌≡◌}
use mathlib.Core.Bool.{true}
use Prim.Native.Nat.{◌≤◌}
use Rattle.array.specs.Index.{all_below, fill}
use Rattle.plan.specs.Limits.{most_tasks}
use Rattle.plan_grammar.specs.Meant.{task_of}
use Rattle.plan_words.specs.Words.{task_in, task_words}
use Rattle.plan_words.proofs.step.plan.Given as goal

abbrev pub invariant-loop-k : goal.invariant-loop-k
invariant-loop-k l = (l.k ≤ most_tasks) × (all_below (task_words l.words) l.k ≡ true) × (l.tasks ≡ fill (λ j. task_of (task_in l.words j)) l.k l.initial.tasks)
