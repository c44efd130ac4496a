-- `lines::step::line` meets its contract: the line on rows, with fault bytes of its own.
use mathlib.Core.Path.{refl}
use Prim.Native.Nat.{◌-◌, ◌≤◌}
use native.Mathlib.Omega.{arith}
use lib.ListN.{replicate}
use Rattle.plan.proofs.AcceptedLaws.{shape-of-accepted}
use Rattle.system.specs.Fault.{faults_size}
use Rattle.faults.proofs.LayoutLaws.{most-enough, held-zero}
use Rattle.row_frame.proofs.FrameLaws.{sizes-small}
use Rattle.run_line.specs.Listing.{line_numbers}
use Rattle.lines.proofs.StepLaws.{front_length}
use Rattle.lines.proofs.RowsLaws.{sizes-are, step-refused, step-run}
use Rattle.lines.proofs.step.line.Goals as goal

pub size-size-requires : goal.size-size-requires
size-size-requires c =
    let p = c.args.plan in
    let q = c.requires in
    (sizes-small p q.0 c.sizes_with-s.result (sizes-are p c.sizes_with-s.ensures q.1)).0

pub frame_numbers-read-requires : goal.frame_numbers-read-requires
frame_numbers-read-requires c = let h = shape-of-accepted c.args.plan c.requires.0 in (h.nodes-high, h.sensors-le)

pub slice_bounds-faults-end : goal.slice_bounds-faults-end
slice_bounds-faults-end c =
    let p = c.args.plan in
    let q = c.requires in
    let s = c.sizes_with-s.result in
    omega (arith, c.size-size.ensures, most-enough s (sizes-small p q.0 s (sizes-are p c.sizes_with-s.ensures q.1)).0)

pub line_on_rows-requires : goal.line_on_rows-requires
unfolding line_numbers
line_on_rows-requires c =
    let a = c.args in
    let p = a.plan in
    let q = c.requires in
    let s = c.sizes_with-s.result in
    let e = sizes-are p c.sizes_with-s.ensures q.1 in
    let l : faults_size s ≤ 14896 = most-enough s (sizes-small p q.0 s e).0 in
    (q.0, e, (a.line.now, c.frame_numbers-read.ensures), refl, front_length (replicate 14896 0) c.size-size.ensures l, held-zero s 14896 0 (c.size-size.result - 0), q.2, c.table-cams.ensures)

pub returns-then-not-line_on_rows : goal.returns-then-not-line_on_rows
unfolding line_numbers
returns-then-not-line_on_rows c =
    let a = c.args in
    let u = c.beside-rows.ensures in
    step-refused a.plan a.system a.single a.frame a.out.now u.1 c.frame_numbers-read.ensures
    (c.line_on_rows.ensures.2 a.system u.0)
    c.if-not-line_on_rows.true

pub returns : goal.returns
unfolding line_numbers
returns c =
    let a = c.args in
    let u = c.beside-rows.ensures in
    step-run a.plan a.system a.single a.frame a.out.now u.1 c.frame_numbers-read.ensures
    (c.line_on_rows.ensures.2 a.system u.0)
    c.if-not-line_on_rows.false _
    c.system-after.ensures
    c.memory-memory.ensures
