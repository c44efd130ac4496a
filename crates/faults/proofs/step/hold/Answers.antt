-- `faults::step::hold` meets its contract: the parts of the bad nodes below j hold `fill`, and `held` says what each part holds.
use mathlib.Core.Path.{◌≡◌, refl, sym, ap, ◌∙◌}
use Prim.Native.Nat.{◌+◌, ◌-◌, ◌*◌, ◌<◌}
use native.Mathlib.Nat.{le_refl}
use native.Mathlib.Omega.{arith}
use lib.ListN.{length}
use borrow.Author.Rules.{rules}
use Rattle.array.proofs.PlacesLaws.{fill_none, fill-length}
use Rattle.array.proofs.LoopLaws.{stored-all}
use Rattle.plan.specs.Limits.{most_nodes}
use Rattle.memory.proofs.StepLaws.{bin-ends}
use Rattle.faults.proofs.LayoutLaws.{most_part, times-most, part-most, held_same, filled-length, filled-held, held_now, held_none, held_next, held_kept}
use Rattle.faults.proofs.step.hold.Goals as goal
use Rattle.faults.proofs.step.hold.Goals.{else-is_bad-held, then-is_bad-held}

pub returns-then-mask-eq0 : goal.returns-then-mask-eq0
returns-then-mask-eq0 c = (held_none c.args.mask c.args.fill c.args.held.now c.args.s.nodes c.if-mask-eq0.true, search rules, c.requires.4)

pub loop-j-init : goal.loop-j-init
loop-j-init c = let e = c.part_size-size.ensures in
    (search rules, c.requires.0.nodes, rw e (part-most c.args.s c.requires.0), c.requires.2, rw e c.requires.3, sym (fill_none _ _), rw e c.requires.4)

pub overflow_mul-at : goal.overflow_mul-at
overflow_mul-at c = let l = c.loop-j in
    omega (arith, times-most l.j c.part_size-size.result most_part (omega arith) l.invariant.2)

pub overflow_add-at : goal.overflow_add-at
overflow_add-at c = let l = c.loop-j in
    omega (arith, times-most l.j c.part_size-size.result most_part (omega arith) l.invariant.2)

pub slice_bounds-fill-end : goal.slice_bounds-fill-end
slice_bounds-fill-end c = let l = c.loop-j in
    omega (arith, bin-ends l.j c.part_size-size.result c.loop-j-test.true (le_refl (c.args.s.nodes * c.part_size-size.result)), l.invariant.4)

pub loop-j-preserved : goal.loop-j-preserved
loop-j-preserved c = let a = c.args in
    let l = c.loop-j in
    let size = c.part_size-size.result in
    let t : l.j < a.s.nodes = c.loop-j-test.true in
    let z : l.j * size + size - l.j * size ≡ size = omega arith in
    let n : length l.held ≡ most_nodes = ap length l.invariant.5 ∙ fill-length (held_now a.mask a.fill a.held.now) l.j a.held.now ∙ l.invariant.3 in
    elim c.if-is_bad-held.branch [
      | then-is_bad-held w ↦ (
        omega arith,
        l.invariant.1,
        l.invariant.2,
        l.invariant.3,
        ap length w.faults-is ∙ filled-length a.s.nodes size l.held l.faults _ l.j a.fill refl z t l.invariant.4 (w.fill.ensures.after (λ y e. e)),
        w.held-is ∙ held_next a.mask a.fill a.held.now l.j l.invariant.5 c.is_bad.ensures _ w.if-is_bad-held.true,
        held_same a.s.nodes size (filled-held a.s.nodes size l.held l.faults _ l.j a.fill refl z t l.invariant.4 (w.fill.ensures.after (λ y e. e)) (omega arith) l.invariant.6) w.held-is w.faults-is,
      )
      | else-is_bad-held w ↦ (
        omega arith,
        l.invariant.1,
        l.invariant.2,
        l.invariant.3,
        ap length w.faults-is ∙ l.invariant.4,
        w.held-is ∙ held_kept a.mask a.fill a.held.now l.j l.invariant.5 c.is_bad.ensures w.if-is_bad-held.false,
        held_same a.s.nodes size l.invariant.6 w.held-is w.faults-is,
      )
    ]

pub shape_of-faults : goal.shape_of-faults
shape_of-faults c = c.loop-j.invariant.4 ∙ rw c.part_size-size.ensures (sym c.requires.3)

pub returns : goal.returns
returns c = let e = c.part_size-size.ensures in
    let l = c.loop-j in
    (stored-all _ _ _ l.invariant.5 (omega arith), l.invariant.4 ∙ rw e, rw e at l.invariant.6)
