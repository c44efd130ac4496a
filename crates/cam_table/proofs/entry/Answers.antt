-- `cam_table::entry` meets its contract: no product of the rule is too large, and the difference is not below 0.
use native.Mathlib.Omega.{arith}
use Rattle.cam_table.proofs.EntryLaws.{square-is, cube-is, square-bound, cube-bound}
use Rattle.cam_table.proofs.entry.Goals as goal

pub overflow_mul-square : goal.overflow_mul-square
overflow_mul-square c = record { fits = omega (arith, square-bound c.args.i c.requires) }

pub overflow_mul-result : goal.overflow_mul-result
overflow_mul-result c = record { fits = omega (arith, square-bound c.args.i c.requires) }

pub overflow_mul-result-2 : goal.overflow_mul-result-2
overflow_mul-result-2 c = record { fits = omega (arith, square-bound c.args.i c.requires, cube-bound c.args.i c.requires) }

pub overflow_mul-result-3 : goal.overflow_mul-result-3
overflow_mul-result-3 c = record { fits = omega (arith, square-bound c.args.i c.requires, cube-bound c.args.i c.requires) }

pub overflow_sub-result : goal.overflow_sub-result
overflow_sub-result c = omega (arith, cube-bound c.args.i c.requires)

pub overflow_add-result : goal.overflow_add-result
overflow_add-result c = record { fits = omega (arith, square-bound c.args.i c.requires) }

pub returns : goal.returns
returns c = rw (cube-is c.args.i, square-is c.args.i)
