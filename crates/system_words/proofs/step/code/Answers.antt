-- `system_words::step::code` meets its contract.
use native.Mathlib.Omega.{arith}
use Rattle.system_words.proofs.CodeLaws.{number_small, sum_fits, code_sum}
use Rattle.system_words.proofs.step.code.Goals as goal

pub overflow_add-result : goal.overflow_add-result
overflow_add-result c = omega (arith, sum_fits c.number.result c.line.result (rw c.number.ensures (number_small c.args.refusal)))

pub returns : goal.returns
returns c = code_sum c.args.refusal c.number.ensures c.line.ensures
