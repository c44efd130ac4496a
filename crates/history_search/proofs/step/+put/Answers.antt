-- The histories that go on from a past are written: the proof of the cycle of calls {put}. What is left of the frames falls with each call.
use mathlib.Core.Path.{sym, ap, ◌∙◌}
use mathlib.Core.List.{List}
use Prim.Native.Nat.{ℕ, ◌+◌, ◌-◌}
use native.Mathlib.Omega.{arith}
use lib.ListN.{length}
use Rattle.array.specs.Code.{placed}
use Rattle.array.proofs.PlacedLaws.{placed-none, placed-length}
use Rattle.history_masks.proofs.CodeLaws.{masks-more, mask-in, mask-out, masks-few, held-few, test_fits, last_fits, last-bytes, bytes_found, put-begin, put-hit, put-miss, put_all, put-within}
use Rattle.history_search.proofs.step.+put.Goals as goal
use Rattle.history_search.proofs.step.+put.Goals.{then-most_work, else-most_work}

pub bad_in-bad-requires : goal.bad_in-bad-requires
bad_in-bad-requires t c = tt

pub overflow_add-done : goal.overflow_add-done
overflow_add-done t c =
    omega (arith, c.requires.3)

pub put_last-requires : goal.put_last-requires
put_last-requires t c =
    (c.requires.0, last_fits c.args.nodes c.args.period c.args.done c.args.past c.requires.0 c.requires.4 c.requires.1 c.bad_in-bad.ensures, held-few c.args.done c.args.past (omega (arith, c.requires.2, c.requires.3)) c.requires.4.fits, omega (arith, c.requires.5, ap length (last-bytes c.args.nodes c.args.period c.args.done c.args.past c.requires.0 c.requires.4 c.requires.1 c.bad_in-bad.ensures c.if-left-eq1.true)), omega (arith, c.requires.3))

pub shape_of-out-then-left-eq1 : goal.shape_of-out-then-left-eq1
shape_of-out-then-left-eq1 t c = c.put_last.auto.out

pub returns-then-left-eq1 : goal.returns-then-left-eq1
returns-then-left-eq1 t c =
    let all = last-bytes c.args.nodes c.args.period c.args.done c.args.past c.requires.0 c.requires.4 c.requires.1 c.bad_in-bad.ensures c.if-left-eq1.true in
    (c.put_last.ensures.0 ∙ ap (λ (b : List ℕ). c.args.at + length b) all, c.put_last.ensures.1 ∙ ap (placed c.args.out.now c.args.at) all)

pub overflow_shl-masks : goal.overflow_shl-masks
overflow_shl-masks t c =
    omega (arith, c.requires.0)

pub loop-mask-init : goal.loop-mask-init
loop-mask-init t c =
    let none = put-begin c.args.nodes c.args.period c.args.done c.args.past (c.args.left - 1) in
    (placed-none c.args.out.now c.args.at ∙ ap (placed c.args.out.now c.args.at) (sym none), omega (arith, ap length none), omega arith)

pub most_work-requires : goal.most_work-requires
most_work-requires t c =
    let l = mask-in c.args.nodes c.loop-mask.mask c.requires.0 c.loop-mask-test.true in
    test_fits c.args.nodes c.args.period c.args.done c.args.past (c.args.left - 1) c.loop-mask.mask c.requires.0 c.requires.4 l c.requires.1 c.bad_in-bad.ensures

pub overflow_mul-past : goal.overflow_mul-past
overflow_mul-past t c =
    let l = mask-in c.args.nodes c.loop-mask.mask c.requires.0 c.loop-mask-test.true in
    omega (arith, l, masks-few c.args.nodes c.requires.0, held-few c.args.done c.args.past (omega (arith, c.requires.2, c.requires.3)) c.requires.4.fits)

pub overflow_add-past : goal.overflow_add-past
overflow_add-past t c =
    let l = mask-in c.args.nodes c.loop-mask.mask c.requires.0 c.loop-mask-test.true in
    omega (arith, l, masks-few c.args.nodes c.requires.0, held-few c.args.done c.args.past (omega (arith, c.requires.2, c.requires.3)) c.requires.4.fits)

pub overflow_add-done-then-most_work : goal.overflow_add-done-then-most_work
overflow_add-done-then-most_work t c =
    omega (arith, c.requires.3)

pub overflow_sub-left : goal.overflow_sub-left
overflow_sub-left t c =
    c.requires.2

pub put-end-requires : goal.put-end-requires
put-end-requires t c =
    let l = mask-in c.args.nodes c.loop-mask.mask c.requires.0 c.loop-mask-test.true in (
      omega (arith, c.requires.0, c.requires.2),
      (
        c.requires.0,
        c.requires.1,
        omega (arith, c.requires.2, c.if-left-eq1.false),
        omega (arith, c.requires.2, c.requires.3),
        masks-more c.args.nodes c.args.done c.args.past c.loop-mask.mask c.requires.4 l (omega (arith, l, masks-few c.args.nodes c.requires.0)),
        omega (
          arith,
          c.requires.5,
          (put-hit c.args.nodes c.args.period c.args.done c.args.past (c.args.left - 1) c.loop-mask.mask c.requires.0 c.requires.4 l c.requires.1 c.bad_in-bad.ensures c.most_work.ensures c.args.out.now c.args.at (omega (arith, c.requires.5)) c.loop-mask.invariant.0 c.loop-mask.invariant.1 c.if-most_work.true).1,
          put-within c.args.nodes c.args.period c.args.done c.args.past c.args.left (c.loop-mask.mask + 1) (λ e. omega (arith, e, c.requires.2)) (omega (arith, l)),
          ap length c.loop-mask.invariant.0,
          placed-length c.args.out.now c.args.at (bytes_found c.args.nodes c.args.period c.args.done c.args.past (c.args.left - 1) c.loop-mask.mask) (omega (arith, c.requires.5, put-within c.args.nodes c.args.period c.args.done c.args.past c.args.left c.loop-mask.mask (λ e. omega (arith, e, c.requires.2)) c.loop-mask.invariant.2)),
        ),
      ),
    )

pub loop-mask-smaller : goal.loop-mask-smaller
loop-mask-smaller t c =
    let l = mask-in c.args.nodes c.loop-mask.mask c.requires.0 c.loop-mask-test.true in
    omega (arith, l)

pub loop-mask-preserved : goal.loop-mask-preserved
loop-mask-preserved t c =
    let l = mask-in c.args.nodes c.loop-mask.mask c.requires.0 c.loop-mask-test.true in
    elim c.if-most_work.branch [
      | then-most_work h ↦ let hit = put-hit c.args.nodes c.args.period c.args.done c.args.past (c.args.left - 1) c.loop-mask.mask c.requires.0 c.requires.4 l c.requires.1 c.bad_in-bad.ensures c.most_work.ensures c.args.out.now c.args.at (omega (arith, c.requires.5)) c.loop-mask.invariant.0 c.loop-mask.invariant.1 h.if-most_work.true in
          (h.out-is ∙ h.put-end.ensures.1 ∙ hit.0, h.end-is ∙ h.put-end.ensures.0 ∙ hit.1, omega (arith, l))
      | else-most_work h ↦ let miss = put-miss c.args.nodes c.args.period c.args.done c.args.past (c.args.left - 1) c.loop-mask.mask c.requires.0 c.requires.4 l c.requires.1 c.bad_in-bad.ensures c.most_work.ensures c.args.out.now c.args.at (omega (arith, c.requires.5)) c.loop-mask.invariant.0 c.loop-mask.invariant.1 h.if-most_work.false in
          (h.out-is ∙ miss.0, h.end-is ∙ miss.1, omega (arith, l))
    ]

pub shape_of-out : goal.shape_of-out
shape_of-out t c =
    ap length c.loop-mask.invariant.0 ∙ placed-length c.args.out.now c.args.at (bytes_found c.args.nodes c.args.period c.args.done c.args.past (c.args.left - 1) c.loop-mask.mask) (omega (arith, c.requires.5, put-within c.args.nodes c.args.period c.args.done c.args.past c.args.left c.loop-mask.mask (λ e. omega (arith, e, c.requires.2)) c.loop-mask.invariant.2))

pub returns : goal.returns
returns t c =
    let all = put_all c.args.nodes c.args.period c.args.done c.args.past c.args.left c.loop-mask.mask (λ e. omega (arith, e, c.requires.2)) (omega (arith, c.loop-mask.invariant.2, mask-out c.args.nodes c.loop-mask.mask c.requires.0 c.loop-mask-test.false)) in
    (c.loop-mask.invariant.1 ∙ ap (λ (b : List ℕ). c.args.at + length b) all, c.loop-mask.invariant.0 ∙ ap (placed c.args.out.now c.args.at) all)
