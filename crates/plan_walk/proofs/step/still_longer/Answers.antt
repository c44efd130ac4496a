use borrow.Author.Tests.{lt-ltb, le-ltb}
use Rattle.plan_walk.specs.Code.{longer}
use Rattle.plan_walk.proofs.step.still_longer.Goals as goal

pub returns-then-longest-ran : goal.returns-then-longest-ran
unfolding longer
returns-then-longest-ran c = simp (lt-ltb _ _ c.if-low-frames.true, lt-ltb _ _ c.if-low-ran.true, lt-ltb _ _ c.if-longest-ran.true)

pub returns-else-longest-ran : goal.returns-else-longest-ran
unfolding longer
returns-else-longest-ran c = simp (lt-ltb _ _ c.if-low-frames.true, lt-ltb _ _ c.if-low-ran.true, le-ltb _ _ c.if-longest-ran.false)

pub returns-else-low-ran : goal.returns-else-low-ran
unfolding longer
returns-else-low-ran c = simp (lt-ltb _ _ c.if-low-frames.true, le-ltb _ _ c.if-low-ran.false)

pub returns-else-low-frames : goal.returns-else-low-frames
unfolding longer
returns-else-low-frames c = simp (le-ltb _ _ c.if-low-frames.false)
