-- `numeral_read::numeral` meets its contract. The loops' invariant: the first `i` bytes are digits, at most nineteen, `v` is the number that they are, and the first is no zero.
use mathlib.Core.Path.{◌≡◌, refl, ap, ◌∙◌}
use mathlib.Core.Bool.{true}
use Prim.Native.Nat.{◌+◌, ◌*◌}
use native.Mathlib.Omega.{arith}
use lib.ListN.{length, get_or}
use borrow.Author.Rules.{rules}
use Rattle.array.specs.Index.{all_below}
use Rattle.numeral.specs.Numeral.{is_digit, decimal}
use Rattle.numeral.proofs.NumeralLaws.{digit-yes, digit-no, decimal-more, digits_more, numeral-too-long, numeral-other, numeral-large, numeral-whole, power-more, power_below}
use Rattle.numeral_read.proofs.PartLaws.{part-value, part-none, digits-join, part-bound, power-eight, decimal-eight, eight-zeros, eight-first}
use Rattle.numeral_read.proofs.numeral.Goals as goal
use Rattle.numeral_read.proofs.numeral.Goals.{else-v-ge1844674407370955161, then-v-ge1844674407370955161+else-v-gt1844674407370955161+else-x-gt5}

pub returns-then-n-lt8 : goal.returns-then-n-lt8
returns-then-n-lt8 c = c.few.ensures

pub returns-then-n-gt20 : goal.returns-then-n-gt20
returns-then-n-gt20 c = numeral-too-long c.args.d.now (search rules)

pub loop-i-init : goal.loop-i-init
unfolding decimal all_below
loop-i-init c = (
  refl,
  omega (arith, c.min-most.ensures),
  omega (arith, c.min-most.ensures),
  omega (arith, c.min-most.ensures),
  omega arith,
  omega arith,
  refl,
  refl,
  omega (arith, c.min-most.ensures),
  (λ p. absurd (omega (arith, p))),
)

pub returns-in_default : goal.returns-in_default
returns-in_default c = part-none c.args.d.now c.loop-i.i 8 c.eight.ensures c.in_default.is (omega arith)

pub returns-then-i-e : goal.returns-then-i-e
returns-then-i-e c =
    let p = part-value c.args.d.now c.loop-i.i 8 c.eight.ensures c.in-Some.is in
    eight-zeros c.args.d.now c.loop-i.i c.in-Some.e p.0 p.1 (search rules) c.if-i-e.true

pub overflow_mul-v : goal.overflow_mul-v
overflow_mul-v c = omega (arith, power_below c.loop-i.v c.loop-i.i 11 c.loop-i.invariant.5 (omega arith))

pub overflow_add-v : goal.overflow_add-v
overflow_add-v c =
    let p = part-value c.args.d.now c.loop-i.i 8 c.eight.ensures c.in-Some.is in
    omega (arith, p.1, part-bound c.args.d.now c.loop-i.i 8 p.0, power_below c.loop-i.v c.loop-i.i 11 c.loop-i.invariant.5 (omega arith))

pub loop-i-preserved : goal.loop-i-preserved
loop-i-preserved c =
    let d = c.args.d.now in
    let i = c.loop-i.i in
    let h = c.loop-i.invariant in
    let p = part-value d i 8 c.eight.ensures c.in-Some.is in (
      refl,
      h.1,
      h.2,
      h.3,
      omega arith,
      power-eight c.loop-i.v c.in-Some.e i h.5 (omega (arith, p.1, part-bound d i 8 p.0)),
      decimal-eight d i c.loop-i.v c.in-Some.e h.6 p.1,
      digits-join d i 8 h.7 p.0,
      h.8,
      (λ q. eight-first d i c.in-Some.e p.0 p.1 c.if-i-e.false h.9),
    )

pub loop-j-init : goal.loop-j-init
loop-j-init c = (c.loop-i.invariant, omega arith)

pub returns-then-x-gt9 : goal.returns-then-x-gt9
returns-then-x-gt9 c =
    let d = c.args.d.now in
    let i = c.loop-j.j in
    numeral-other d i (search rules) (digit-no (get_or d i 0) c.digit-x.ensures c.if-x-gt9.true)

pub overflow_mul-v-in-loop-j : goal.overflow_mul-v-in-loop-j
overflow_mul-v-in-loop-j c = omega (arith, power_below c.loop-j.v c.loop-j.j 18 c.loop-j.invariant.0.5 (omega arith))

pub overflow_add-v-in-loop-j : goal.overflow_add-v-in-loop-j
overflow_add-v-in-loop-j c = omega (arith, power_below c.loop-j.v c.loop-j.j 18 c.loop-j.invariant.0.5 (omega arith), c.if-x-gt9.false)

pub loop-j-preserved : goal.loop-j-preserved
loop-j-preserved c =
    let d = c.args.d.now in
    let i = c.loop-j.j in
    let h = c.loop-j.invariant.0 in
    let p = c.loop-j.invariant.1 in
    let x = digit-yes (get_or d i 0) c.digit-x.ensures c.if-x-gt9.false in (
      (
        refl,
        h.1,
        h.2,
        h.3,
        search rules,
        power-more c.loop-j.v c.digit-x.result i h.5 (omega arith),
        rw (decimal-more d i, x.2) (omega arith),
        digits_more d i h.7 x.0 x.1,
        h.8,
        (λ q. h.9 p),
      ),
      omega arith,
    )

pub returns-then-n-lt20 : goal.returns-then-n-lt20
returns-then-n-lt20 c =
    let d = c.args.d.now in
    let h = c.loop-j.invariant.0 in
    let n : c.min-most.result ≡ length d = omega (arith, c.min-most.ensures) in
    let e : c.loop-j.j ≡ length d = omega arith in
    numeral-whole d c.loop-j.j c.loop-j.v e h.6 h.7 (omega arith) (λ z. absurd (h.9 c.loop-j.invariant.1 z)) (omega (arith, power_below c.loop-j.v c.loop-j.j 19 h.5 (omega arith)))

pub returns-then-x-gt9-2 : goal.returns-then-x-gt9-2
returns-then-x-gt9-2 c =
    let d = c.args.d.now in
    numeral-other d 19 (search rules) (digit-no (get_or d 19 0) c.digit-x-2.ensures c.if-x-gt9-2.true)

pub returns-then-v-gt1844674407370955161 : goal.returns-then-v-gt1844674407370955161
returns-then-v-gt1844674407370955161 c =
    let d = c.args.d.now in
    let h = c.loop-j.invariant.0 in
    let e : c.loop-j.j ≡ 19 = omega arith in
    let q : c.loop-j.v ≡ decimal d 19 = h.6 ∙ ap (decimal d) e in
    numeral-large d 20 (search rules) (omega (arith, decimal-more d 19))

pub returns-then-x-gt5 : goal.returns-then-x-gt5
returns-then-x-gt5 c =
    let d = c.args.d.now in
    let h = c.loop-j.invariant.0 in
    let e : c.loop-j.j ≡ 19 = omega arith in
    let q : c.loop-j.v ≡ decimal d 19 = h.6 ∙ ap (decimal d) e in
    let x = digit-yes (get_or d 19 0) c.digit-x-2.ensures c.if-x-gt9-2.false in
    numeral-large d 20 (search rules) (omega (arith, decimal-more d 19, x.2))

pub overflow_mul-result : goal.overflow_mul-result
overflow_mul-result c = elim c.if-v-ge1844674407370955161.branch [ then-v-ge1844674407370955161+else-v-gt1844674407370955161+else-x-gt5 h ↦ search rules | else-v-ge1844674407370955161 h ↦ search rules ]

pub overflow_add-result : goal.overflow_add-result
overflow_add-result c = elim c.if-v-ge1844674407370955161.branch [ then-v-ge1844674407370955161+else-v-gt1844674407370955161+else-x-gt5 h ↦ search rules | else-v-ge1844674407370955161 h ↦ search rules ]

pub returns : goal.returns
returns c =
    let d = c.args.d.now in
    let h = c.loop-j.invariant.0 in
    let e : c.loop-j.j ≡ 19 = omega arith in
    let q : c.loop-j.v ≡ decimal d 19 = h.6 ∙ ap (decimal d) e in
    let a : all_below (λ k. is_digit (get_or d k 0)) 19 ≡ true = rw (← e) h.7 in
    let x = digit-yes (get_or d 19 0) c.digit-x-2.ensures c.if-x-gt9-2.false in
    numeral-whole d 20 (c.loop-j.v * 10 + c.digit-x-2.result) (omega arith) (rw x.2 (omega (arith, decimal-more d 19)))
    (digits_more d 19 a x.0 x.1)
    (omega arith)
    (λ z. absurd (h.9 c.loop-j.invariant.1 z))
    (elim c.if-v-ge1844674407370955161.branch [ then-v-ge1844674407370955161+else-v-gt1844674407370955161+else-x-gt5 t ↦ omega arith | else-v-ge1844674407370955161 t ↦ omega arith ])
