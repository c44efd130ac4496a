-- The histories that go on from a past are counted: the proof of the cycle of calls {count}. What is left of the frames falls with each call.
use mathlib.Core.Path.{◌∙◌}
use Prim.Native.Nat.{◌+◌, ◌-◌}
use native.Mathlib.Omega.{arith}
use Rattle.history_masks.specs.Code.{past_of}
use Rattle.history_masks.proofs.CodeLaws.{masks-more, mask-in, mask-out, masks-few, held-few, found-fit, test_fits, last_fits, last-count, count-begin, count-hit, count-miss, count-all}
use Rattle.history_search.proofs.step.+count.Goals as goal
use Rattle.history_search.proofs.step.+count.Goals.{then-most_work, else-most_work}

pub bad_in-bad-requires : goal.bad_in-bad-requires
bad_in-bad-requires t c = tt

pub count_last-requires : goal.count_last-requires
count_last-requires t c =
    (c.requires.0, last_fits c.args.nodes c.args.period c.args.done c.args.past c.requires.0 c.requires.4 c.requires.1 c.bad_in-bad.ensures)

pub returns-then-left-eq1 : goal.returns-then-left-eq1
returns-then-left-eq1 t c =
    last-count c.args.nodes c.args.period c.args.done c.args.past c.requires.0 c.requires.4 c.requires.1 c.bad_in-bad.ensures c.if-left-eq1.true c.count_last.ensures

pub overflow_shl-masks : goal.overflow_shl-masks
overflow_shl-masks t c =
    omega (arith, c.requires.0)

pub loop-mask-init : goal.loop-mask-init
loop-mask-init t c =
    (count-begin c.args.nodes c.args.period c.args.done c.args.past (c.args.left - 1), omega arith)

pub most_work-requires : goal.most_work-requires
most_work-requires t c =
    let l = mask-in c.args.nodes c.loop-mask.mask c.requires.0 c.loop-mask-test.true in
    test_fits c.args.nodes c.args.period c.args.done c.args.past (c.args.left - 1) c.loop-mask.mask c.requires.0 c.requires.4 l c.requires.1 c.bad_in-bad.ensures

pub overflow_mul-past : goal.overflow_mul-past
overflow_mul-past t c =
    omega (arith, held-few c.args.done c.args.past (omega (arith, c.requires.2, c.requires.3)) c.requires.4.fits)

pub overflow_add-past : goal.overflow_add-past
overflow_add-past t c =
    let l = mask-in c.args.nodes c.loop-mask.mask c.requires.0 c.loop-mask-test.true in
    omega (arith, l, masks-few c.args.nodes c.requires.0, held-few c.args.done c.args.past (omega (arith, c.requires.2, c.requires.3)) c.requires.4.fits)

pub overflow_add-done : goal.overflow_add-done
overflow_add-done t c =
    omega (arith, c.requires.3)

pub overflow_sub-left : goal.overflow_sub-left
overflow_sub-left t c =
    c.requires.2

pub count-total-requires : goal.count-total-requires
count-total-requires t c =
    let l = mask-in c.args.nodes c.loop-mask.mask c.requires.0 c.loop-mask-test.true in
    (omega (arith, c.requires.0, c.requires.2), (c.requires.0, c.requires.1, omega (arith, c.requires.2, c.if-left-eq1.false), omega (arith, c.requires.2, c.requires.3), masks-more c.args.nodes c.args.done c.args.past c.loop-mask.mask c.requires.4 l (omega (arith, l, masks-few c.args.nodes c.requires.0))))

pub overflow_add-total : goal.overflow_add-total
overflow_add-total t c =
    let l = mask-in c.args.nodes c.loop-mask.mask c.requires.0 c.loop-mask-test.true in
    omega (
      arith,
      count-hit c.args.nodes c.args.period c.args.done c.args.past (c.args.left - 1) c.loop-mask.mask c.requires.0 c.requires.4 l c.requires.1 c.bad_in-bad.ensures c.most_work.ensures c.loop-mask.invariant.0 c.if-most_work.true c.count-total.ensures,
      found-fit c.args.nodes c.args.period (past_of c.args.done c.args.past) (c.args.left - 1) (c.loop-mask.mask + 1) c.requires.0 (omega (arith, c.requires.2, c.requires.3)) (omega (arith, l)),
    )

pub loop-mask-smaller : goal.loop-mask-smaller
loop-mask-smaller t c =
    let l = mask-in c.args.nodes c.loop-mask.mask c.requires.0 c.loop-mask-test.true in
    omega (arith, l)

pub loop-mask-preserved : goal.loop-mask-preserved
loop-mask-preserved t c =
    let l = mask-in c.args.nodes c.loop-mask.mask c.requires.0 c.loop-mask-test.true in (
      elim c.if-most_work.branch [ then-most_work h ↦ h.total-is ∙ count-hit c.args.nodes c.args.period c.args.done c.args.past (c.args.left - 1) c.loop-mask.mask c.requires.0 c.requires.4 l c.requires.1 c.bad_in-bad.ensures c.most_work.ensures c.loop-mask.invariant.0 h.if-most_work.true h.count-total.ensures | else-most_work h ↦ h.total-is ∙ count-miss c.args.nodes c.args.period c.args.done c.args.past (c.args.left - 1) c.loop-mask.mask c.requires.0 c.requires.4 l c.requires.1 c.bad_in-bad.ensures c.most_work.ensures c.loop-mask.invariant.0 h.if-most_work.false ],
      omega (arith, l),
    )

pub returns : goal.returns
returns t c =
    count-all c.args.nodes c.args.period c.args.done c.args.past c.args.left c.loop-mask.mask (λ e. omega (arith, e, c.requires.2))
    (omega (arith, c.loop-mask.invariant.1, mask-out c.args.nodes c.loop-mask.mask c.requires.0 c.loop-mask-test.false))
    c.loop-mask.invariant.0
