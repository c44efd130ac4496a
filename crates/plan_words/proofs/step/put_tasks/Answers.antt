use mathlib.Core.Path.{◌≡◌, refl, ◌∙◌}
use Prim.Native.Nat.{◌+◌, ◌-◌, ◌*◌}
use native.Mathlib.Omega.{arith}
use borrow.Author.Rules.{rules}
use Rattle.array.proofs.PlacedLaws.{part_length}
use Rattle.column.proofs.BufferLaws.{laid-length}
use Rattle.plan.specs.Limits.{most_tasks}
use Rattle.plan_words.specs.Words.{task_size}
use Rattle.plan_words.proofs.WordsPutLaws.{task-size, laid-whole, six-none, six-more}
use Rattle.plan_words.proofs.step.put_tasks.Goals as goal

pub loop-k-init : goal.loop-k-init
loop-k-init c = (search rules, c.requires, six-none _ (λ j. task-size _))

pub slice_bounds-put_task-end : goal.slice_bounds-put_task-end
slice_bounds-put_task-end c = let loop = c.loop-k in omega (arith, laid-length loop.invariant.2 (omega (arith, loop.invariant.1)), loop.invariant.1)

pub put_task-requires : goal.put_task-requires
put_task-requires c =
    let loop = c.loop-k in
    part_length loop.out (task_size * loop.k) (task_size * loop.k + task_size - task_size * loop.k) task_size (omega arith) (omega (arith, laid-length loop.invariant.2 (omega (arith, loop.invariant.1)), loop.invariant.1))

pub loop-k-preserved : goal.loop-k-preserved
loop-k-preserved c =
    let loop = c.loop-k in
    (search rules, loop.invariant.1, six-more _ (λ j. task-size _) loop.invariant.2 _ _ _ refl refl (omega (arith, loop.invariant.1)) (c.put_task.ensures ∙ c.task_line.ensures))

pub shape_of-out : goal.shape_of-out
shape_of-out c = laid-length c.loop-k.invariant.2 (omega (arith, c.loop-k.invariant.1))

pub returns : goal.returns
returns c =
    let e : c.loop-k.k ≡ most_tasks = omega arith in
    rw e at (laid-whole c.loop-k.invariant.2 (omega (arith, c.loop-k.invariant.1)))
