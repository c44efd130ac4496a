-- `plan_form::row_ok` meets its contract: the cells in front of `from` pass, and the loop has passed cells with no vote only.
use mathlib.Core.Path.{sym}
use mathlib.Core.Bool.{true, false}
use Prim.Native.Nat.{◌-◌}
use borrow.Author.Rules.{rules}
use borrow.Author.Tests.{le-ltb}
use Rattle.array.proofs.IndexLaws.{all_below-more, all_below-fails}
use Rattle.plan.specs.Tables.{vote_place}
use Rattle.plan.proofs.EntryLaws.{all_done, free-none, free-voted, row-front}
use Rattle.plan_form.proofs.row_ok.Goals as goal

pub loop-c-init : goal.loop-c-init
loop-c-init c = (search rules, row-front c.args.voted.now c.args.frame c.args.from)

pub returns-then-voted-vote_place : goal.returns-then-voted-vote_place
returns-then-voted-vote_place c =
    let l = c.loop-c in
    let v = rw c.vote_place.ensures at c.if-voted-vote_place.true in
    sym (all_below-fails _ 32 l.c c.loop-c-test.true (free-voted v (le-ltb _ _ l.invariant.0)))

pub loop-c-preserved : goal.loop-c-preserved
loop-c-preserved c =
    let l = c.loop-c in
    let v = rw c.vote_place.ensures at c.if-voted-vote_place.false in
    (search rules, all_below-more _ l.c l.invariant.1 (free-none _ v))

pub returns : goal.returns
returns c = all_done _ c.loop-c.invariant.1 c.loop-c-test.false
