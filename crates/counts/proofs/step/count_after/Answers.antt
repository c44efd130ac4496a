-- `counts::step::count_after` meets its contract: a way out for each case.
use native.Mathlib.Omega.{arith}
use Rattle.counts.proofs.CountLaws.{count-bad, count-kept}
use Rattle.counts.proofs.step.count_after.Goals as goal

pub returns-then-bad : goal.returns-then-bad
returns-then-bad c = count-bad _ _ c.if-bad.true

pub returns : goal.returns
returns c = count-kept _ _ c.if-bad.false (omega (arith, c.min.ensures, c.requires))
