-- `ballot::step::or_own` meets its contract: one way out for each case.
use borrow.Author.Tests.{lt-ltb, le-ltb}
use Rattle.ballot.specs.Majority.{or_own}
use Rattle.ballot.proofs.step.or_own.Goals as goal

pub returns-in_default : goal.returns-in_default
unfolding or_own
returns-in_default c = rw c.in_default.is

pub returns-then-x-frames : goal.returns-then-x-frames
unfolding or_own
returns-then-x-frames c = rw (c.in-Some.is, lt-ltb _ _ c.if-x-frames.true)

pub returns : goal.returns
unfolding or_own
returns c = rw (c.in-Some.is, le-ltb _ _ c.if-x-frames.false)
