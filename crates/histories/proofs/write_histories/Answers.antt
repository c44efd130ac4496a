-- `histories::write_histories` meets its contract: line after line.
use mathlib.Core.Path.{refl}
use Prim.Native.Nat.{◌+◌, ◌*◌, ◌-◌}
use native.Mathlib.Omega.{arith}
use Rattle.array.proofs.PlacedLaws.{part_length}
use Rattle.histories.specs.Code.{history_line_size}
use Rattle.histories.proofs.ListingLaws.{lines-begin, lines_more, lines-kept, lines-all}
use Rattle.histories.proofs.write_histories.Goals as goal

pub loop-k-init : goal.loop-k-init
loop-k-init c =
    (lines-begin c.args.out.now c.args.masks.now, omega arith, refl)

pub overflow_mul-at : goal.overflow_mul-at
overflow_mul-at c = omega (arith, c.requires.0, c.loop-k-test.true)

pub overflow_mul-line : goal.overflow_mul-line
overflow_mul-line c = omega (arith, c.requires.0, c.loop-k-test.true)

pub overflow_add-line : goal.overflow_add-line
overflow_add-line c = omega (arith, c.requires.0, c.loop-k-test.true)

pub slice_bounds-write_history-count : goal.slice_bounds-write_history-count
slice_bounds-write_history-count c = omega arith

pub slice_bounds-write_history-start : goal.slice_bounds-write_history-start
slice_bounds-write_history-start c = omega arith

pub slice_bounds-write_history-end : goal.slice_bounds-write_history-end
slice_bounds-write_history-end c = omega (arith, c.requires.2, c.loop-k-test.true, c.loop-k.invariant.2)

pub bounds-masks-at : goal.bounds-masks-at
bounds-masks-at c = omega (arith, c.requires.1, c.loop-k-test.true)

pub overflow_add-at : goal.overflow_add-at
overflow_add-at c = omega (arith, c.requires.0, c.loop-k-test.true)

pub bounds-masks-at-in-loop-k : goal.bounds-masks-at-in-loop-k
bounds-masks-at-in-loop-k c = omega (arith, c.requires.1, c.loop-k-test.true)

pub overflow_add-at-in-loop-k : goal.overflow_add-at-in-loop-k
overflow_add-at-in-loop-k c = omega (arith, c.requires.0, c.loop-k-test.true)

pub bounds-masks-at-in-loop-k-2 : goal.bounds-masks-at-in-loop-k-2
bounds-masks-at-in-loop-k-2 c = omega (arith, c.requires.1, c.loop-k-test.true)

pub write_history-requires : goal.write_history-requires
write_history-requires c =
    let now = c.loop-k in
    part_length now.out (now.k * history_line_size) (now.k * history_line_size + history_line_size - now.k * history_line_size) history_line_size (omega arith) (omega (arith, c.requires.2, c.loop-k-test.true, now.invariant.2))

pub loop-k-smaller : goal.loop-k-smaller
loop-k-smaller c = omega (arith, c.loop-k-test.true)

pub loop-k-preserved : goal.loop-k-preserved
loop-k-preserved c =
    let now = c.loop-k in
    let loop-test = c.loop-k-test in
    let next = lines_more c.args.out.now now.out c.args.masks.now now.k now.invariant.0 c.write_history.ensures in
    (next, omega (arith, loop-test.true), lines-kept c.args.out.now _ c.args.masks.now (now.k + 1) next (omega (arith, c.requires.2, loop-test.true)))

pub shape_of-out : goal.shape_of-out
shape_of-out c = c.loop-k.invariant.2

pub returns : goal.returns
returns c =
    lines-all c.args.out.now c.args.masks.now c.loop-k.invariant.0 (omega (arith, c.loop-k.invariant.1, c.loop-k-test.false))
