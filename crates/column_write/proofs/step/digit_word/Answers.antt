-- `column_write::step::digit_word` meets its contract: hundreds and tens are found in each field as in a number by itself, and no sum reaches past its field.
use Prim.Native.Nat.{◌*◌, ◌/◌}
use native.Mathlib.Omega.{arith}
use lib.Bits.{and_le_r}
use Rattle.column_write.proofs.DigitWordLaws.{pairs_of, tens_of, hundreds-are, pairs-are, pairs-bound, tens-are, parts-fit, digits_are}
use Rattle.column_write.proofs.step.digit_word.Goals as goal

pub overflow_mul-pairs-2 : goal.overflow_mul-pairs-2
overflow_mul-pairs-2 c = omega (arith, hundreds-are c.args.a c.args.b c.requires.0 c.requires.1)

pub overflow_sub-pairs : goal.overflow_sub-pairs
overflow_sub-pairs c = omega (arith, hundreds-are c.args.a c.args.b c.requires.0 c.requires.1)

pub overflow_mul-tens : goal.overflow_mul-tens
overflow_mul-tens c = omega (arith, pairs-are c.args.a c.args.b c.requires.0 c.requires.1)

pub overflow_sub-ones : goal.overflow_sub-ones
overflow_sub-ones c = omega (arith, pairs-are c.args.a c.args.b c.requires.0 c.requires.1, tens-are c.args.a c.args.b c.requires.0 c.requires.1)

pub overflow_mul-ones : goal.overflow_mul-ones
overflow_mul-ones c = omega (arith, and_le_r (pairs_of c.args.a c.args.b * 103 / 1024) 4222189076152335)

pub overflow_mul-result : goal.overflow_mul-result
overflow_mul-result c =
    let a = c.args.a in
    let b = c.args.b in
    let t = and_le_r (pairs_of a b * 103 / 1024) 4222189076152335 in
    omega (arith, t, (parts-fit (pairs_of a b) (tens_of a b) (pairs-bound a b c.requires.0 c.requires.1) t).0)

pub overflow_add-result : goal.overflow_add-result
overflow_add-result c =
    let a = c.args.a in
    let b = c.args.b in
    let t = and_le_r (pairs_of a b * 103 / 1024) 4222189076152335 in
    let p = pairs-bound a b c.requires.0 c.requires.1 in
    omega (arith, t, p, (parts-fit (pairs_of a b) (tens_of a b) p t).1)

pub returns : goal.returns
returns c = digits_are c.args.a c.args.b c.requires.0 c.requires.1
