-- `numeral::step::eight` meets its contract: the test says that all eight bytes are digits, and then the three steps join them.
use Rattle.std.proofs.Common.{not, ap, ◌+◌, ◌*◌, ◌/◌, refl, ◌∙◌, arith, rules}
use lib.Bits.{bit_and, and_le_r}
use Rattle.numeral.proofs.EightLaws.{eight-bound, eight-none, eight-some}
use Rattle.numeral.proofs.step.eight.Goals as goal

pub returns-then-not-x-y : goal.returns-then-not-x-y
returns-then-not-x-y c =
    let a = c.args in
    let d = a.d.now in
    let x = c.wrapping_sub_u64-x.result in
    let y = c.wrapping_add_u64-y.result in
    rw (eight-none d a.i x y (λ k. omega (arith, c.shared_slice_known-1.given k)) (search rules) (c.wrapping_sub_u64-x.ensures.value ∙ c.read_le8.ensures) c.wrapping_add_u64-y.ensures.value (ap not c.if-not-x-y.true))

pub overflow_mul-pairs : goal.overflow_mul-pairs
overflow_mul-pairs c =
    let a = c.args in
    omega (arith, eight-bound a.d.now a.i c.wrapping_sub_u64-x.result c.wrapping_add_u64-y.result (λ k. omega (arith, c.shared_slice_known-1.given k)) (search rules) (c.wrapping_sub_u64-x.ensures.value ∙ c.read_le8.ensures) c.wrapping_add_u64-y.ensures.value (ap not c.if-not-x-y.false))

pub overflow_add-pairs : goal.overflow_add-pairs
overflow_add-pairs c =
    let a = c.args in
    omega (arith, eight-bound a.d.now a.i c.wrapping_sub_u64-x.result c.wrapping_add_u64-y.result (λ k. omega (arith, c.shared_slice_known-1.given k)) (search rules) (c.wrapping_sub_u64-x.ensures.value ∙ c.read_le8.ensures) c.wrapping_add_u64-y.ensures.value (ap not c.if-not-x-y.false))

pub overflow_mul-fours : goal.overflow_mul-fours
overflow_mul-fours c = let x = c.wrapping_sub_u64-x.result in omega (arith, and_le_r (x * 10 + x / 256) 71777214294589695)

pub overflow_add-fours : goal.overflow_add-fours
overflow_add-fours c = let x = c.wrapping_sub_u64-x.result in omega (arith, and_le_r (x * 10 + x / 256) 71777214294589695)

pub overflow_mul-result : goal.overflow_mul-result
overflow_mul-result c =
    let x = c.wrapping_sub_u64-x.result in
    let p = bit_and (x * 10 + x / 256) 71777214294589695 in
    omega (arith, and_le_r (p * 100 + p / 65536) 281470681808895)

pub overflow_add-result : goal.overflow_add-result
overflow_add-result c =
    let x = c.wrapping_sub_u64-x.result in
    let p = bit_and (x * 10 + x / 256) 71777214294589695 in
    omega (arith, and_le_r (p * 100 + p / 65536) 281470681808895)

pub returns : goal.returns
returns c =
    let a = c.args in
    let x = c.wrapping_sub_u64-x.result in
    let p = bit_and (x * 10 + x / 256) 71777214294589695 in
    eight-some a.d.now a.i x c.wrapping_add_u64-y.result (λ k. omega (arith, c.shared_slice_known-1.given k)) (search rules) (c.wrapping_sub_u64-x.ensures.value ∙ c.read_le8.ensures) c.wrapping_add_u64-y.ensures.value (ap not c.if-not-x-y.false) p (bit_and (p * 100 + p / 65536) 281470681808895) refl refl
