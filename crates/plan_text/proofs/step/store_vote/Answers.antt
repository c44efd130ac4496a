-- `plan_text::step::store_vote` meets its contract: a vote is stored at its place in the table, and of another line nothing.
use native.Mathlib.Omega.{arith}
use mathlib.Core.Path.{sym, ◌∙◌}
use borrow.Author.Tests.{eqb-true}
use Rattle.plan_grammar.specs.Meant.{voted_with}
use Rattle.plan_text.proofs.step.store_vote.Goals as goal

pub vote_place-at-requires : goal.vote_place-at-requires
vote_place-at-requires c = c.requires (eqb-true _ _ (sym c.is.ensures ∙ c.if-is.true))

pub bounds-voted-at : goal.bounds-voted-at
bounds-voted-at c = omega (arith, c.requires (eqb-true _ _ (sym c.is.ensures ∙ c.if-is.true)))

pub returns-then-is : goal.returns-then-is
unfolding voted_with
returns-then-is c = rw (← c.is.ensures, c.if-is.true, c.vote_place-at.ensures)

pub returns-else-is : goal.returns-else-is
unfolding voted_with
returns-else-is c = rw (← c.is.ensures, c.if-is.false)
