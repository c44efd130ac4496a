-- `faults::step::part_size` meets its contract: a part is small.
use native.Mathlib.Omega.{arith}
use borrow.Author.Rules.{rules}
use Rattle.faults.proofs.LayoutLaws.{times-most}
use Rattle.faults.proofs.step.part_size.Goals as goal

pub overflow_mul-result : goal.overflow_mul-result
overflow_mul-result c = omega (arith, times-most c.args.s.nodes c.bin_size.result 258 (search rules) (search rules))

pub overflow_add-result : goal.overflow_add-result
overflow_add-result c = omega (arith, times-most c.args.s.nodes c.bin_size.result 258 (search rules) (search rules))

pub overflow_add-result-2 : goal.overflow_add-result-2
overflow_add-result-2 c = omega (arith, times-most c.args.s.nodes c.bin_size.result 258 (search rules) (search rules))

pub returns : goal.returns
returns c = rw (c.bin_size.ensures, c.message_size-memory.ensures)
