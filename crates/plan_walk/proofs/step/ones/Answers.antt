use native.Mathlib.Omega.{arith}
use mathlib.Core.Path.{ap}
use Prim.Native.Nat.{ℕ, ◌-◌}
use Rattle.plan_walk.proofs.WalkLaws.{ones_small, ones-shifted, ones-some}
use Rattle.plan_walk.proofs.step.ones.Goals as goal

pub overflow_sub-result : goal.overflow_sub-result
overflow_sub-result c = rw (ones-shifted c.args.n c.requires) (ones-some c.args.n)

pub overflow_cast-result-2 : goal.overflow_cast-result-2
overflow_cast-result-2 c = omega (arith, ones-shifted c.args.n c.requires, ones_small c.args.n c.requires)

pub returns : goal.returns
returns c = ap (λ (x : ℕ). x - 1) (ones-shifted c.args.n c.requires)
