-- `plan_words::step::plan` meets its contract: the first k tasks are whole, and stored.
use mathlib.Core.Path.{◌≡◌, sym, ap}
use mathlib.Core.Bool.{not}
use native.Mathlib.Omega.{arith}
use Rattle.array.proofs.TestLaws.{refused-test, passed-test}
use Rattle.array.proofs.IndexLaws.{all_below-none, all_below-more}
use Rattle.array.proofs.LoopLaws.{stored_next, stored-all, all-passed}
use Rattle.plan.specs.Limits.{most_tasks}
use Rattle.plan_words.proofs.WordsReadLaws.{task-whole, task-none, other_length, other-votes, other-task, plan-read}
use Rattle.array.proofs.PlacesLaws.{fill_none}
use borrow.Author.Rules.{rules}
use Rattle.plan_words.proofs.step.plan.Goals as goal

pub returns-in_default : goal.returns-in_default
returns-in_default c =
    let words = c.args.words.now in
    other-task words c.zero_plan-in_default.ensures c.loop-k.k c.loop-k-test.true
    (task-none words _ c.task.result c.task_of.result c.task.ensures c.task_of.ensures c.in_default.is)

pub loop-k-preserved : goal.loop-k-preserved
loop-k-preserved c =
    let loop = c.loop-k in
    let t = task-whole _ _ c.task.result c.task_of.result c.task.ensures c.task_of.ensures c.in-Some.is in
    (search rules, all_below-more _ loop.k loop.invariant.1 t.0, stored_next _ _ _ loop.invariant.2 t.1)

pub returns : goal.returns
returns c =
    let e : c.loop-k.k ≡ most_tasks = omega (arith, c.loop-k-test.false, c.loop-k.invariant.0) in
    plan-read _ c.if-words-ne-SIZE.false (passed-test c.votes_ok.ensures (ap not c.if-not-votes_ok.false)) (all-passed _ c.loop-k.invariant.1 e)
    c.copy.ensures (stored-all _ _ _ c.loop-k.invariant.2 e) c.votes_in.ensures c.actuators_in.ensures

pub returns-then-words-ne-SIZE : goal.returns-then-words-ne-SIZE
returns-then-words-ne-SIZE c = other_length c.args.words.now c.zero_plan.ensures c.if-words-ne-SIZE.true

pub returns-then-not-votes_ok : goal.returns-then-not-votes_ok
returns-then-not-votes_ok c = other-votes c.args.words.now c.zero_plan-then-not-votes_ok.ensures (refused-test c.votes_ok.ensures (ap not c.if-not-votes_ok.true))

pub loop-k-init : goal.loop-k-init
loop-k-init c = (search rules, all_below-none _, sym (fill_none _ _))
