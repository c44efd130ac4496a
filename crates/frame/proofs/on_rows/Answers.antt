-- `frame::on_rows` meets its contract: what the rows hold after the frame is the record after it.
use mathlib.Core.Path.{sym, ap, ◌∙◌}
use mathlib.Core.List.{List}
use Prim.Native.Nat.{ℕ, ◌-◌}
use native.Mathlib.Omega.{arith}
use Rattle.array.specs.Index.{from}
use Rattle.array.proofs.PlacedLaws.{part_length, part-from}
use Rattle.plan.proofs.AcceptedLaws.{shape-of-accepted}
use Rattle.system.proofs.SeenLaws.{place-seen}
use Rattle.rows.proofs.RowLaws.{seen-long}
use Rattle.frame.proofs.on_rows.Goals as goal

pub frame-agreement-requires : goal.frame-agreement-requires
frame-agreement-requires c =
    let q = c.requires in
    (q.0, q.1, omega arith, q.2, c.table-cams.ensures)

pub slice_bounds-copy_from_slice-end : goal.slice_bounds-copy_from_slice-end
slice_bounds-copy_from_slice-end c =
    let f = c.frame-agreement.ensures.0 c.args.system.now c.of-rows.ensures in
    omega (arith, seen-long f.0, (shape-of-accepted c.args.plan c.requires.0).actuators-le)

pub copy_from_slice-requires : goal.copy_from_slice-requires
copy_from_slice-requires c =
    let a = c.args in
    let q = c.requires in
    let f = c.frame-agreement.ensures.0 a.system.now c.of-rows.ensures in
    q.3
    ∙ sym
    (part_length c.frame-agreement.new.rows.seen 0 (a.plan.actuators - 0) a.plan.actuators (omega arith)
    (omega (arith, seen-long f.0, (shape-of-accepted a.plan q.0).actuators-le)))

pub returns : goal.returns
returns c =
    let a = c.args in
    let q = c.requires in
    let few = (shape-of-accepted a.plan q.0).actuators-le in
    let rows = c.of-rows.ensures in
    let f = c.frame-agreement.ensures.0 a.system.now rows in (
      f.1,
      c.system.ensures _ f.0,
      c.copy_from_slice.ensures.after
          ∙ part-from c.frame-agreement.new.rows.seen 0 (a.plan.actuators - 0) a.plan.actuators (omega arith) (omega (arith, seen-long f.0, few))
          ∙ ap (λ (l : List ℕ). from 0 l 0 a.plan.actuators) f.0.seen-is
          ∙ sym (place-seen a.plan a.system.now a.sensors.now a.faults.now.mask a.faults.now.bytes.now a.place.now q.3 (omega (arith, few, rows.seen-count))),
    )
