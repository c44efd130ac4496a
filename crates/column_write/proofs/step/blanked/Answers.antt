-- `column_write::step::blanked` meets its contract: the mask takes 16 from each byte before the first that is not zero.
use mathlib.Core.Path.{ap, ◌∙◌}
use Prim.Native.Nat.{ℕ, ◌+◌, ◌-◌, ◌<◌}
use native.Mathlib.Omega.{arith}
use lib.ListN.{replicate}
use Rattle.word.specs.Word.{word_of}
use Rattle.column_write.proofs.PaddingLaws.{zeros-lt, shift-above, blanks-mask, blanks-room, glyphs-fit}
use Rattle.column_write.proofs.step.blanked.Goals as goal

pub overflow_mul-bits : goal.overflow_mul-bits
overflow_mul-bits c = omega (arith, c.zero_bytes-bits.ensures, zeros-lt c.args.values c.args.last c.requires.0 c.requires.1 c.requires.2)

pub overflow_shl-result : goal.overflow_shl-result
overflow_shl-result c = omega (arith, c.zero_bytes-bits.ensures, zeros-lt c.args.values c.args.last c.requires.0 c.requires.1 c.requires.2)

pub overflow_sub-result : goal.overflow_sub-result
overflow_sub-result c =
    shift-above c.zero_bytes-bits.result
    (omega (arith, c.zero_bytes-bits.ensures, zeros-lt c.args.values c.args.last c.requires.0 c.requires.1 c.requires.2))

pub overflow_sub-result-2 : goal.overflow_sub-result-2
overflow_sub-result-2 c = blanks-room _

pub overflow_add-result : goal.overflow_add-result
overflow_add-result c = glyphs-fit c.args.values _ c.requires.0

pub returns : goal.returns
unfolding word_of
returns c =
    let d = c.args.values in
    let z = c.zero_bytes-bits.result in
    let l : z < 8 = omega (arith, c.zero_bytes-bits.ensures, zeros-lt d c.args.last c.requires.0 c.requires.1 c.requires.2) in
    ap (λ (x : ℕ). d + (3472328296227680304 - x)) (blanks-mask z l ∙ ap (λ (n : ℕ). word_of (replicate n 16)) c.zero_bytes-bits.ensures)
