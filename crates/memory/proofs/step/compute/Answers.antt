-- `memory::step::compute` meets its contract: the loop has run the tasks of the frame among the first k.
use mathlib.Core.Path.{ap, ◌∙◌}
use native.Mathlib.Omega.{arith}
use native.Mathlib.Nat.{mod-lt}
use lib.ListN.{length}
use borrow.Author.Rules.{rules}
use Rattle.plan.proofs.AcceptedLaws.{shape-of-accepted, op-in}
use Rattle.task.proofs.TaskLaws.{run_tasks-length}
use Rattle.memory.proofs.StepLaws.{tasks-none, tasks-hit, tasks-miss, tasks-later, tasks-end, computed-is}
use Rattle.memory.proofs.step.compute.Goals as goal
use Rattle.memory.proofs.step.compute.Goals.{else-frame-g, else-loop-k-test, then-frame-g, then-loop-k-test+then-g-frame}

pub nonzero_rem-g : goal.nonzero_rem-g
nonzero_rem-g c = (shape-of-accepted _ c.requires.0).frames-pos

pub loop-k-init : goal.loop-k-init
loop-k-init c =
    let s = shape-of-accepted _ c.requires.0 in
    (search rules, s.tasks-le, tasks-none _ _ _ _, s.frames-le, mod-lt _ s.frames-pos, mod-lt _ s.frames-pos, c.table-cams.ensures)

pub run_task-requires : goal.run_task-requires
run_task-requires c =
    let a = c.args in
    let q = c.requires in
    let s = shape-of-accepted a.plan.now q.0 in
    let l = c.loop-k in
    let here = c.loop-k-test.true in
    (ap length l.invariant.2 ∙ run_tasks-length a.plan.now _ _ _ _ ∙ search rules, omega (arith, s.target l.k here, s.cells-le), op-in a.plan.now s l.k here q.1, l.invariant.6)

pub loop-k-preserved : goal.loop-k-preserved
loop-k-preserved c =
    let l = c.loop-k in
    elim c.if-frame-g.branch [ then-frame-g w ↦ (search rules, search rules, tasks-hit _ _ _ _ l.k w.if-frame-g.true l.invariant.2 (w.cells-is ∙ w.run_task.ensures), l.invariant.3, l.invariant.4, l.invariant.5, l.invariant.6) | else-frame-g w ↦ (search rules, search rules, w.cells-is ∙ tasks-miss _ _ _ _ l.k w.if-frame-g.false l.invariant.2, l.invariant.3, l.invariant.4, l.invariant.5, l.invariant.6) ]

pub returns : goal.returns
returns c =
    let l = c.loop-k in
    let p = c.args.plan.now in
    computed-is p c.args.sensors.now c.args.memory
    (elim c.loop-k-test.branch [ else-loop-k-test w ↦ tasks-end p _ _ _ l.invariant.2 (omega (arith, w.loop-k-test.false, l.invariant.0)) | then-loop-k-test+then-g-frame w ↦ tasks-later p _ _ _ (shape-of-accepted p c.requires.0) l.invariant.2 w.loop-k-test.true w.if-g-frame.true ])
