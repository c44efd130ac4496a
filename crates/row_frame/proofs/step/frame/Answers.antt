-- `row_frame::step::frame` meets its contract: the rows before r have run their tasks, and row r those of its frame among the first k.
use mathlib.Core.Path.{◌≡◌, refl, ap, ◌∙◌}
use mathlib.Core.List.{List}
use Prim.Native.Nat.{ℕ, ◌+◌, ◌-◌, ◌*◌, ◌%◌, ◌≤◌, ◌<◌}
use native.Mathlib.Omega.{arith}
use native.Mathlib.Nat.{mod-lt}
use lib.ListN.{length, get_or, set}
use borrow.Author.Rules.{rules}
use Rattle.array.proofs.PlacedLaws.{part_length}
use Rattle.plan.specs.Tables.{task_at}
use Rattle.plan.specs.Limits.{most_cells}
use Rattle.plan.proofs.AcceptedLaws.{shape-of-accepted, op-in}
use Rattle.task.specs.Task.{op_value}
use Rattle.task.proofs.SkipLaws.{skips-none, skips-again, skips-few, skips-earlier}
use Rattle.memory.proofs.StepLaws.{tasks-none, tasks-hit, tasks-miss, tasks-others, tasks-later, tasks-end}
use Rattle.rows.specs.declared.RowWords.{RowWords}
use Rattle.rows.specs.Code.{row_of}
use Rattle.rows.proofs.RowLaws.{lent_other, through-next, through-all, row-changed, computed-stored}
use Rattle.row_frame.specs.Code.{ran}
use Rattle.row_frame.proofs.FrameLaws.{sizes-small, table_fits, through-first, ran-stored, framed}
use Rattle.row_frame.proofs.step.frame.Goals as goal
use Rattle.row_frame.proofs.step.frame.Goals.{else-frame-g, else-loop-k-test, then-frame-g, then-loop-k-test+then-g-frame}

pub overflow_add-end : goal.overflow_add-end
overflow_add-end c = omega (arith, (shape-of-accepted _ c.requires.0).nodes-high)

pub loop-r-init : goal.loop-r-init
loop-r-init c =
    let q = c.requires in
    let s = shape-of-accepted _ q.0 in
    (omega (arith, q.2, s.nodes-low), omega (arith, s.nodes-high), search rules, skips-none c.args.plan _, refl, refl, through-first _ _ _ _ _, omega arith)

pub bounds-rows-r : goal.bounds-rows-r
bounds-rows-r c = omega (arith, c.loop-r.invariant.1, c.loop-r.rows.counters_size, c.loop-r-test.true)

pub nonzero_rem-g : goal.nonzero_rem-g
nonzero_rem-g c = (shape-of-accepted _ c.requires.0).frames-pos

pub loop-k-init : goal.loop-k-init
loop-k-init c =
    let i = c.loop-r.invariant in
    let p = c.args.plan in
    let l = c.loop-r in
    let g = get_or l.rows.counters l.r 0 % p.frames in
    let h = skips-again l.last g c.begin-skipped.ensures p i.3 in
    let few = skips-few l.last g c.begin-skipped.ensures i.2 in
    let s = shape-of-accepted p c.requires.0 in
    (few, s.tasks-le, few, h, tasks-none p _ _ _ ∙ tasks-others p _ _ _ 0 _ (omega arith) (λ n a. h n), (λ q ne. refl), refl, s.frames-le, mod-lt _ s.frames-pos, mod-lt _ s.frames-pos, omega (arith, i.1, c.loop-r-test.true), refl, refl, refl)

pub run_task-requires : goal.run_task-requires
run_task-requires c =
    let a = c.args in
    let q = c.requires in
    let s = shape-of-accepted a.plan q.0 in
    let l = c.loop-k in
    let i = l.invariant in
    let here = c.loop-k-test.true in
    let r : ℕ = c.loop-r.r in
    let z : most_cells * r + most_cells - most_cells * r ≡ most_cells = omega arith in (
      part_length l.rows.cells (most_cells * r) (most_cells * r + most_cells - most_cells * r) most_cells z (omega (arith, l.rows.cells_size, i.10)),
      omega (arith, s.target l.k here, s.cells-le),
      op-in a.plan s l.k here q.3,
      q.4,
    )

pub loop-k-preserved : goal.loop-k-preserved
loop-k-preserved c =
    let l = c.loop-k in
    let i = l.invariant in
    let p = c.args.plan in
    let s = shape-of-accepted p c.requires.0 in
    let r : ℕ = c.loop-r.r in
    let z : most_cells * r + most_cells - most_cells * r ≡ most_cells = omega arith in
    let room : most_cells * r + most_cells ≤ length l.rows.cells = omega (arith, l.rows.cells_size, i.10) in
    elim c.if-frame-g.branch [
      | then-frame-g w ↦
          let part : List ℕ = w.run_task.new.cells in
          let long : length part ≡ most_cells = w.run_task.auto.cells ∙ part_length l.rows.cells (most_cells * r) (most_cells * r + most_cells - most_cells * r) most_cells z (omega arith) in
          let run : List ℕ → List ℕ = λ s. set s (task_at p l.k).target (op_value (task_at p l.k).op (task_at p l.k).target c.args.sensors.now s) in (
            search rules,
            i.1,
            rw w.skipped-is i.2,
            rw w.skipped-is i.3,
            tasks-hit p _ _ _ l.k w.if-frame-g.true i.4 (ap (λ (s : RowWords). row_of s.cells r) w.rows-is ∙ row-changed l.rows.cells part r refl z room long run w.run_task.ensures),
            (λ q ne. ap (λ (s : RowWords). row_of s.cells q) w.rows-is ∙ lent_other l.rows.cells part r refl z room long q ne ∙ i.5 q ne),
            ap (λ (s : RowWords). s.counters) w.rows-is ∙ i.6,
            i.7,
            i.8,
            i.9,
            i.10,
            i.11,
            ap (λ (s : RowWords). s.good) w.rows-is ∙ i.12,
            ap (λ (s : RowWords). s.seen) w.rows-is ∙ i.13,
          )
      | else-frame-g w ↦ (
        search rules,
        i.1,
        rw w.skipped-is i.0,
        rw w.skipped-is (skips-earlier p s c.loop-k-test.true c.if-g-frame.false w.if-frame-g.false),
        ap (λ (s : RowWords). row_of s.cells r) w.rows-is ∙ tasks-miss p _ _ _ l.k w.if-frame-g.false i.4,
        (λ q ne. ap (λ (s : RowWords). row_of s.cells q) w.rows-is ∙ i.5 q ne),
        ap (λ (s : RowWords). s.counters) w.rows-is ∙ i.6,
        i.7,
        i.8,
        i.9,
        i.10,
        i.11,
        ap (λ (s : RowWords). s.good) w.rows-is ∙ i.12,
        ap (λ (s : RowWords). s.seen) w.rows-is ∙ i.13,
      )
    ]

pub nonzero_rem-rows : goal.nonzero_rem-rows
nonzero_rem-rows c = (shape-of-accepted _ c.requires.0).frames-pos

pub loop-r-preserved : goal.loop-r-preserved
loop-r-preserved c =
    let l = c.loop-r in
    let i = l.invariant in
    let m = c.loop-k in
    let a = c.args in
    let p = a.plan in
    let s = shape-of-accepted p c.requires.0 in
    let few : l.r < length l.rows.counters = omega (arith, i.1, l.rows.counters_size, c.loop-r-test.true) in (
      search rules,
      i.1,
      m.invariant.2,
      m.invariant.3,
      m.invariant.12 ∙ i.4,
      m.invariant.13 ∙ i.5,
      through-next (ran p a.sensors.now a.first) _ _ i.6
          (ran-stored p a.sensors.now a.first l.rows.counters l.rows.cells _ m.rows.cells l.r i.7
          (rw m.invariant.6 (computed-stored p a.sensors.now l.rows.counters l.rows.cells m.rows.cells l.r few
          (elim c.loop-k-test.branch [ else-loop-k-test w ↦ tasks-end p _ _ _ m.invariant.4 (omega (arith, w.loop-k-test.false, m.invariant.0)) | then-loop-k-test+then-g-frame w ↦ tasks-later p _ _ _ s m.invariant.4 w.loop-k-test.true w.if-g-frame.true ])
          m.invariant.5))),
      omega (arith, i.7),
    )

pub close-requires : goal.close-requires
close-requires c =
    let a = c.args in
    let q = c.requires in
    let z = sizes-small a.plan q.0 a.faults.now.sizes q.1 in
    (z.1, z.2, z.3, z.4, table_fits a.plan q.0 a.faults.now.sizes q.1)

pub returns : goal.returns
returns c =
    let a = c.args in
    let rows = a.rows.now in
    let l = c.loop-r in
    let i = l.invariant in
    let q = c.requires in
    let k = c.close.ensures in
    framed a.plan q.0 a.faults.now.sizes q.1 a.first q.2 a.sensors.now a.faults.now.mask a.faults.now.bytes.now rows.counters rows.cells l.rows.counters l.rows.cells _ _ rows.good _ rows.seen _ _
    (through-all _ _ _ i.6 (omega arith)) k.3 k.0 (rw i.5 at k.1) (rw i.4 at k.2) k.4
