-- `numeral::step::few` meets its contract. The loop's invariant: the first `i` bytes are digits, and `v` is the number that they are.
use Rattle.std.proofs.Common.{◌≡◌, length, get_or, refl, arith, rules}
use Rattle.array.specs.Index.{all_below}
use Rattle.numeral.specs.Numeral.{decimal}
use Rattle.numeral.proofs.NumeralLaws.{digit-yes, digit-no, first-bad, first_good, decimal-more, digits_more, numeral-empty, numeral-other, numeral-whole, power-more, power_below}
use Rattle.numeral.proofs.step.few.Goals as goal

pub returns-then-n-eq0 : goal.returns-then-n-eq0
returns-then-n-eq0 c = numeral-empty c.args.d.now c.if-n-eq0.true

pub returns-then-v-n : goal.returns-then-v-n
returns-then-v-n c = first-bad c.args.d.now (search rules) c.digit-v.ensures c.if-v-n.true

pub loop-i-init : goal.loop-i-init
unfolding decimal all_below
loop-i-init c =
    let d = c.args.d.now in
    let f = first_good d (search rules) c.digit-v.ensures c.if-v-n.false in
    let x = digit-yes (get_or d 0 0) c.digit-v.ensures f.0 in
    (refl, search rules, search rules, omega (arith, f.0), omega (arith, x.2), digits_more d 0 refl x.0 x.1)

pub returns-then-x-gt9 : goal.returns-then-x-gt9
returns-then-x-gt9 c =
    let d = c.args.d.now in
    let i = c.loop-i.i in
    numeral-other d i (search rules) (digit-no (get_or d i 0) c.digit-x.ensures c.if-x-gt9.true)

pub overflow_mul-v : goal.overflow_mul-v
overflow_mul-v c = omega (arith, power_below c.loop-i.v c.loop-i.i 7 c.loop-i.invariant.3 (omega arith))

pub overflow_add-v : goal.overflow_add-v
overflow_add-v c = omega (arith, power_below c.loop-i.v c.loop-i.i 7 c.loop-i.invariant.3 (omega arith), c.if-x-gt9.false)

pub loop-i-preserved : goal.loop-i-preserved
loop-i-preserved c =
    let d = c.args.d.now in
    let i = c.loop-i.i in
    let h = c.loop-i.invariant in
    let x = digit-yes (get_or d i 0) c.digit-x.ensures c.if-x-gt9.false in (
      refl,
      h.1,
      search rules,
      power-more c.loop-i.v c.digit-x.result i h.3 (omega arith),
      rw (decimal-more d i, x.2) (omega arith),
      digits_more d i h.5 x.0 x.1,
    )

pub returns : goal.returns
returns c =
    let d = c.args.d.now in
    let h = c.loop-i.invariant in
    let f = first_good d (search rules) c.digit-v.ensures c.if-v-n.false in
    let e : c.loop-i.i ≡ length d = omega arith in
    numeral-whole d c.loop-i.i c.loop-i.v e h.4 h.5 c.if-n-eq0.false f.1 (omega (arith, power_below c.loop-i.v c.loop-i.i 7 h.3 (omega arith)))
