-- `lines::step::finish_line` meets its contract: the frame on rows, and its line.
use mathlib.Core.Path.{sym, ap, ◌∙◌}
use borrow.Author.Rules.{rules}
use Rattle.plan.specs.declared.Sizes.{Sizes}
use Rattle.plan.proofs.AcceptedLaws.{shape-of-accepted}
use Rattle.run_line.specs.Line.{printed_size}
use Rattle.run_line.specs.Listing.{single_after}
use Rattle.lines.proofs.RowsLaws.{rows_next, planes-read, agreement-is, working-is, same_rows, line-is}
use Rattle.lines.proofs.step.finish_line.Goals as goal

pub working-working-requires : goal.working-working-requires
working-working-requires c = c.args.faults.now.small.nodes

pub frame-agreement-requires : goal.frame-agreement-requires
frame-agreement-requires c =
    let q = c.requires in
    (q.0, q.1, search rules, q.2, q.4)

pub equal-equal-requires : goal.equal-equal-requires
equal-equal-requires c =
    let h = c.args.faults.now.small in
    (h.nodes, h.cells)

pub write_frame-requires : goal.write_frame-requires
write_frame-requires c =
    let q = c.requires in
    (c.args.faults.now.small.actuators, q.3 ∙ ap (λ (t : Sizes). printed_size t.actuators) (sym q.1))

pub returns : goal.returns
unfolding single_after
returns c =
    let a = c.args in
    let q = c.requires in
    let h = shape-of-accepted a.plan q.0 in
    λ sys x rows hold.
    let f = c.frame-agreement.ensures.0 sys rows in
    let g = rows_next a.plan a.faults.now.sizes q.1 sys a.sensors.now a.faults.now.mask x a.faults.now.bytes.now hold f.0 in (
      g,
      c.frame-agreement.ensures.1,
      line-is a.plan a.faults.now.sizes q.1 sys a.sensors.now a.faults.now.mask x _ a.frame c.write_frame.ensures
          (c.working-working.ensures ∙ working-is a.plan a.faults.now.sizes q.1 sys a.sensors.now a.faults.now.mask x a.rows.now.good rows.good-is)
          (c.equal-equal.ensures ∙ same_rows a.plan a.faults.now.sizes q.1 sys a.sensors.now a.faults.now.mask x _ _ _ _ _ h.nodes-high g c.frame-agreement.ensures.1)
          (planes-read a.plan a.faults.now.sizes q.1 sys a.sensors.now a.faults.now.mask x a.faults.now.bytes.now hold h.actuators-le rows.seen-count f.0)
          (agreement-is a.plan a.faults.now.sizes q.1 sys a.sensors.now a.faults.now.mask x a.faults.now.bytes.now hold f.1),
    )
