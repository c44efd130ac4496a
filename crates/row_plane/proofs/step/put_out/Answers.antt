-- `row_plane::step::put_out` meets its contract: what the first j nodes put out is told.
use mathlib.Core.Path.{refl, sym, ap, ◌∙◌, subst}
use Prim.Native.Nat.{◌+◌, ◌<◌}
use native.Mathlib.Omega.{arith}
use lib.ListN.{length, length-set, replicate}
use borrow.Author.Rules.{rules}
use Rattle.plan.specs.Limits.{most_nodes}
use Rattle.ballot.specs.Code.{Told}
use Rattle.ballot.proofs.BinLaws.{told_none, told-next}
use Rattle.row_plane.specs.Code.{put_from}
use Rattle.row_plane.proofs.PutLaws.{setpoint-in, put-bad, put-good}
use Rattle.row_plane.proofs.step.put_out.Goals as goal
use Rattle.row_plane.proofs.step.put_out.Goals.{else-is_bad, then-is_bad}

pub loop-j-init : goal.loop-j-init
loop-j-init c = let a = c.args in (search rules, search rules, search rules, told_none (put_from a.faults.now.sizes a.faults.now.mask a.faults.now.bytes.now a.cells.now a.cell a.a) (replicate most_nodes 0))

pub read_be8-requires : goal.read_be8-requires
read_be8-requires c = setpoint-in c.args.faults.now.sizes c.args.faults.now.mask _ _ c.args.a c.args.faults.now.parts c.loop-j-test.true (sym c.is_bad.ensures ∙ c.if-is_bad.true) c.requires.1 c.setpoint_at.ensures

pub loop-j-preserved : goal.loop-j-preserved
loop-j-preserved c = let a = c.args in
    let l = c.loop-j in
    let f = put_from a.faults.now.sizes a.faults.now.mask a.faults.now.bytes.now a.cells.now a.cell a.a in
    let few : l.j < length l.values = omega (arith, l.invariant.1, l.invariant.2, c.loop-j-test.true) in
    elim c.if-is_bad.branch [
      | then-is_bad w ↦ (
        search rules,
        l.invariant.1,
        ap length w.values-is ∙ length-set l.values _ _ ∙ l.invariant.2,
        subst (Told f (l.j + 1)) (sym w.values-is) (told-next f l.values l.j _ few (put-bad a.faults.now.sizes a.faults.now.mask a.faults.now.bytes.now a.cells.now a.cell a.a l.j (sym c.is_bad.ensures ∙ w.if-is_bad.true) w.setpoint_at.ensures w.read_be8.ensures) l.invariant.3),
      )
      | else-is_bad w ↦ (
        search rules,
        l.invariant.1,
        ap length w.values-is ∙ length-set l.values _ _ ∙ l.invariant.2,
        subst (Told f (l.j + 1)) (sym w.values-is) (told-next f l.values l.j _ few (put-good a.faults.now.sizes a.faults.now.mask a.faults.now.bytes.now a.cells.now a.cell a.a l.j (sym c.is_bad.ensures ∙ w.if-is_bad.false) refl) l.invariant.3),
      )
    ]

pub returns : goal.returns
returns c j h = c.loop-j.invariant.3 j (omega arith)
