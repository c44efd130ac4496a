use mathlib.Core.Path.{◌≡◌}
use Prim.Native.Nat.{◌+◌, ◌*◌}
use native.Mathlib.Omega.{arith}
use Rattle.plan.specs.Limits.{most_cells}
use Rattle.plan_words.proofs.WordsReadLaws.{frame-more}
use Rattle.plan_words.proofs.step.frame_votes.Goals as goal

pub loop-k-init : goal.loop-k-init
loop-k-init c = (omega arith, omega (arith, c.vote_place-first.ensures), λ q l e h. e)

pub loop-k-preserved : goal.loop-k-preserved
loop-k-preserved c =
    let loop = c.loop-k in
    let e : 4 * loop.k + 4 ≡ 4 * (loop.k + 1) = omega arith in
    (omega arith, loop.invariant.1, λ q l o h. rw (← e) (frame-more _ _ (4 * loop.k) _ q l loop.invariant.1 (omega arith) (loop.invariant.2 q l o h) h c.four_votes.ensures))

pub returns : goal.returns
returns c q l e h = let z : 4 * c.loop-k.k ≡ most_cells = omega arith in rw z at (c.loop-k.invariant.2 q l e h)
