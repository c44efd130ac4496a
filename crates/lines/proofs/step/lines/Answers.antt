-- `lines::step::lines` meets its contract: the loop has run the first k lines, all of them good.
use mathlib.Core.Path.{refl, sym, ap, ◌∙◌, subst}
use mathlib.Core.List.{List}
use Prim.Native.Nat.{ℕ, ◌+◌, ◌-◌}
use native.Mathlib.Omega.{arith}
use native.Mathlib.Nat.{zero-mul}
use borrow.Rule.Slice.PartMut.{same_len_mid}
use Rattle.plan.specs.declared.Sizes.{Sizes}
use Rattle.plan.proofs.AcceptedLaws.{shape-of-accepted}
use Rattle.system.specs.Fault.{faults_size}
use Rattle.faults.specs.Code.{Held}
use Rattle.run_line.specs.Line.{run_line_size, printed_size}
use Rattle.run_line.specs.Listing.{line_numbers}
use Rattle.lines.proofs.RowsLaws.{sizes-are}
use Rattle.lines.proofs.LinesLaws.{going-none, line-room, place-lent, line_refused, line-run, lines-ended}
use Rattle.lines.proofs.step.lines.Goals as goal

pub line_size-size-requires : goal.line_size-size-requires
line_size-size-requires c = (shape-of-accepted _ c.requires.0).sensors-le

pub printed_size-width-requires : goal.printed_size-width-requires
printed_size-width-requires c = (shape-of-accepted _ c.requires.0).actuators-le

pub loop-at-init : goal.loop-at-init
loop-at-init c =
    let a = c.args in
    let r = a.run in
    let p = r.plan in
    let q = c.requires in
    let e = sizes-are p c.sizes_with-s.ensures q.1 in
    record {
      at-is = sym (zero-mul (run_line_size p.sensors));
      to_is = sym (zero-mul (printed_size p.actuators));
      few = omega (arith, q.2);
      out-long = refl;
      held-long = q.4;
      faults-long = q.5 ∙ ap faults_size (sym e);
      parts = subst (λ (t : Sizes). Held t a.held.now a.faults.now) (sym e) q.6;
      going = λ sys single h m. going-none p sys single r.frame a.rest.now a.out.now q.2 h m;
    }

pub frame_numbers-read-requires : goal.frame_numbers-read-requires
frame_numbers-read-requires c = let h = shape-of-accepted c.args.run.plan c.requires.0 in (h.nodes-high, h.sensors-le)

pub overflow_add-to : goal.overflow_add-to
overflow_add-to c = omega (arith, (line-room c.loop-at.invariant c.printed_size-width.ensures c.requires.3 c.requires.7 (omega (arith, c.loop-at-test.true))).1, (shape-of-accepted c.args.run.plan c.requires.0).actuators-le)

pub slice_bounds-line_on_rows-end : goal.slice_bounds-line_on_rows-end
slice_bounds-line_on_rows-end c = (line-room c.loop-at.invariant c.printed_size-width.ensures c.requires.3 c.requires.7 (omega (arith, c.loop-at-test.true))).0

pub line_on_rows-requires : goal.line_on_rows-requires
unfolding line_numbers
line_on_rows-requires c =
    let i = c.loop-at.invariant in (
      c.requires.0,
      sizes-are c.args.run.plan c.sizes_with-s.ensures c.requires.1,
      (_, c.frame_numbers-read.ensures),
      i.held-long,
      i.faults-long,
      i.parts,
      place-lent i c.printed_size-width.ensures (line-room c.loop-at.invariant c.printed_size-width.ensures c.requires.3 c.requires.7 (omega (arith, c.loop-at-test.true))).0,
      c.table-cams.ensures,
    )

pub shape_of-faults-then-not-line_on_rows : goal.shape_of-faults-then-not-line_on_rows
shape_of-faults-then-not-line_on_rows c = c.line_on_rows.auto.faults ∙ c.loop-at.invariant.faults-long ∙ ap faults_size (sizes-are c.args.run.plan c.sizes_with-s.ensures c.requires.1) ∙ sym c.requires.5

pub shape_of-out-then-not-line_on_rows : goal.shape_of-out-then-not-line_on_rows
shape_of-out-then-not-line_on_rows c = same_len_mid c.loop-at.to (c.loop-at.to + c.printed_size-width.result - c.loop-at.to) c.loop-at.out c.line_on_rows.new.out c.line_on_rows.auto.out ∙ c.loop-at.invariant.out-long

pub returns-then-not-line_on_rows : goal.returns-then-not-line_on_rows
unfolding line_numbers
returns-then-not-line_on_rows c =
    let r = c.args.run in
    let held : List ℕ = c.line_on_rows.new.held in
    let faults : List ℕ = c.line_on_rows.new.faults in
    let y = line_refused c.loop-at.invariant c.line_size-size.ensures c.printed_size-width.ensures c.part_end-end.ensures (omega (arith, c.loop-at-test.true)) c.frame_numbers-read.ensures c.line_on_rows.ensures.2 r.system r.single c.beside-rows.ensures.0 c.beside-rows.ensures.1 c.if-not-line_on_rows.true r.period c.stopped.result c.stopped.ensures in
    (y.0, c.line_on_rows.ensures.0, subst (λ (t : Sizes). Held t held faults) (sizes-are r.plan c.sizes_with-s.ensures c.requires.1) c.line_on_rows.ensures.1, y.1)

pub overflow_add-at : goal.overflow_add-at
overflow_add-at c = let h = shape-of-accepted c.args.run.plan c.requires.0 in omega (arith, c.line_size-size.ensures, c.loop-at-test.true, c.requires.3, h.sensors-le)

pub overflow_add-to-in-loop-at : goal.overflow_add-to-in-loop-at
overflow_add-to-in-loop-at c = omega (arith, (line-room c.loop-at.invariant c.printed_size-width.ensures c.requires.3 c.requires.7 (omega (arith, c.loop-at-test.true))).1, (shape-of-accepted c.args.run.plan c.requires.0).actuators-le)

pub loop-at-smaller : goal.loop-at-smaller
loop-at-smaller c = omega (arith, c.loop-at-test.true, c.line_size-size.ensures)

pub loop-at-preserved : goal.loop-at-preserved
unfolding line_numbers
loop-at-preserved c =
    let r = c.args.run in
    let kept = c.line_on_rows.auto in
    line-run c.loop-at.invariant c.line_size-size.ensures c.printed_size-width.ensures c.part_end-end.ensures (omega (arith, c.loop-at-test.true)) c.frame_numbers-read.ensures c.line_on_rows.ensures.2 r.system r.single c.beside-rows.ensures.0 c.beside-rows.ensures.1 c.if-not-line_on_rows.false
    kept.out c.line_on_rows.ensures.0 kept.faults c.line_on_rows.ensures.1

pub shape_of-faults : goal.shape_of-faults
shape_of-faults c = c.loop-at.invariant.faults-long ∙ ap faults_size (sizes-are c.args.run.plan c.sizes_with-s.ensures c.requires.1) ∙ sym c.requires.5

pub returns : goal.returns
returns c =
    let r = c.args.run in
    let i = c.loop-at.invariant in
    let y = lines-ended i r.system r.single c.beside-rows.ensures.0 c.beside-rows.ensures.1 (omega (arith, c.loop-at-test.false)) r.period c.stopped-2.result c.stopped-2.ensures in
    (y.0, i.held-long, subst (λ (t : Sizes). Held t c.loop-at.held c.loop-at.faults) (sizes-are r.plan c.sizes_with-s.ensures c.requires.1) i.parts, y.1)

pub overflow_add-frame : goal.overflow_add-frame
overflow_add-frame c = omega (arith, c.loop-at.invariant.few)

pub part_end-end-requires : goal.part_end-end-requires
part_end-end-requires c = omega (arith, c.loop-at-test.true)

pub overflow_add-k : goal.overflow_add-k
overflow_add-k c = omega (arith, c.loop-at.invariant.few)

pub overflow_add-first : goal.overflow_add-first
overflow_add-first c = omega (arith, c.loop-at.invariant.few)

pub shape_of-out : goal.shape_of-out
shape_of-out c = c.loop-at.invariant.out-long
