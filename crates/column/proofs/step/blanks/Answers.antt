-- `column::step::blanks` meets its contract: eight zero bits of the difference to each blank.
use Rattle.std.proofs.Common.{arith}
use lib.Count.{trailing_le}
use Rattle.word.specs.Word.{word_of}
use Rattle.column.proofs.BlankLaws.{trailing-blanks}
use Rattle.column.proofs.step.blanks.Goals as goal

pub overflow_cast-result : goal.overflow_cast-result
overflow_cast-result c = omega (arith, trailing_le 32 c.wrapping_sub_u32.result)

pub returns : goal.returns
unfolding word_of
returns c = trailing-blanks 4 c.wrapping_sub_u32.result c.args.w c.wrapping_sub_u32.ensures.value
