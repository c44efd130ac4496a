use mathlib.Core.Path.{◌≡◌, sym, subst}
use Prim.Native.Nat.{ℕ}
use native.Mathlib.Omega.{arith}
use borrow.Author.Rules.{rules}
use Rattle.array.specs.Index.{fill}
use Rattle.array.proofs.PlacesLaws.{fill_none}
use Rattle.plan_walk.specs.Code.{with_votes}
use Rattle.plan_walk.proofs.WalkLaws.{voted_word, votes-more}
use Rattle.plan_walk.proofs.step.add_votes.Goals as goal

pub loop-c-init : goal.loop-c-init
loop-c-init c = (search rules, sym (fill_none _ _))

pub loop-c-preserved : goal.loop-c-preserved
loop-c-preserved c =
    let a = c.args in
    (search rules, votes-more a.voted.now a.frame a.begun a.words.now c.loop-c.words c.loop-c.c c.if_voted.result c.loop-c.invariant.1 (rw c.vote_place.ensures at c.if_voted.ensures))

pub returns : goal.returns
unfolding with_votes
returns c =
    let e : c.loop-c.c ≡ c.args.cells = omega arith in
    subst (λ (n : ℕ). c.loop-c.words ≡ fill (voted_word c.args.voted.now c.args.frame c.args.begun c.args.words.now) n c.args.words.now) e c.loop-c.invariant.1
