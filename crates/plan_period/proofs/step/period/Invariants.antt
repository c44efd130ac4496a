use Prim.Native.Nat.{◌+◌, ◌-◌, ◌*◌, ◌≤◌}
use Rattle.plan_walk.proofs.WalkedLaws.{Walked}
use Rattle.plan_period.proofs.step.period.Given as goal

abbrev pub invariant-loop-w : goal.invariant-loop-w
invariant-loop-w l = (l.w.time ≤ l.p.frames * l.p.cells + l.p.frames) × Walked l.p l.words l.w l.i

abbrev pub decreases-loop-w : goal.decreases-loop-w
decreases-loop-w l = (l.p.frames * l.p.cells + l.p.frames - l.w.time) * 65 + (64 - l.i)
