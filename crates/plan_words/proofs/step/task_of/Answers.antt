-- `plan_words::step::task_of` meets its contract: one return for each kind, and one for each test that no task passes.
use mathlib.Core.Path.{sym}
use borrow.Author.Tests.{eqb-true, eqb-false}
use Rattle.plan_words.proofs.WordsReadLaws.{said-limit, said-wind, said-sum, said-diff, said-scale, said-cam, said-take, said-no-sixth, said-no-fifth, said-no-kind}
use Rattle.plan_words.proofs.step.task_of.Goals as goal

pub returns-then-l-ne0-2 : goal.returns-then-l-ne0-2
returns-then-l-ne0-2 c =
    said-no-fifth _ _ _ _ _ _ c.if-l-ne0-2.true (eqb-false _ _ (sym c.if-is.ensures)) (eqb-false _ _ (sym c.if-is-2.ensures)) (eqb-false _ _ (sym c.if-is-3.ensures)) (eqb-false _ _ (sym c.if-is-4.ensures)) (eqb-false _ _ (sym c.if-is-5.ensures))

pub returns-then-not-is : goal.returns-then-not-is
returns-then-not-is c =
    said-no-kind _ _ _ _ _ _ (eqb-false _ _ (sym c.if-is.ensures)) (eqb-false _ _ (sym c.if-is-2.ensures)) (eqb-false _ _ (sym c.if-is-3.ensures)) (eqb-false _ _ (sym c.if-is-4.ensures)) (eqb-false _ _ (sym c.if-is-5.ensures)) (eqb-false _ _ (sym c.if-not-is.ensures)) (eqb-false _ _ (sym c.if-is-6.ensures))

pub returns-then-is : goal.returns-then-is
returns-then-is c = said-limit _ _ _ _ _ (eqb-true _ _ (sym c.if-is.ensures)) c.value.ensures c.value-then-is.ensures c.task_with.ensures

pub returns-then-is-2 : goal.returns-then-is-2
returns-then-is-2 c = said-wind _ _ _ _ _ (eqb-true _ _ (sym c.if-is-2.ensures)) c.value-rate.ensures c.value-cap.ensures c.task_with-then-is-2.ensures

pub returns-then-l-ne0 : goal.returns-then-l-ne0
returns-then-l-ne0 c = said-no-sixth _ _ _ _ _ _ c.if-l-ne0.true (eqb-false _ _ (sym c.if-is.ensures)) (eqb-false _ _ (sym c.if-is-2.ensures))

pub returns-then-is-3 : goal.returns-then-is-3
returns-then-is-3 c = said-sum _ _ _ _ _ (eqb-true _ _ (sym c.if-is-3.ensures)) c.if-l-ne0.false c.task_with-then-is-3.ensures

pub returns-then-is-4 : goal.returns-then-is-4
returns-then-is-4 c = said-diff _ _ _ _ _ (eqb-true _ _ (sym c.if-is-4.ensures)) c.if-l-ne0.false c.task_with-then-is-4.ensures

pub returns-then-is-5 : goal.returns-then-is-5
returns-then-is-5 c = said-scale _ _ _ _ _ (eqb-true _ _ (sym c.if-is-5.ensures)) c.if-l-ne0.false c.value-then-is-5.ensures c.task_with-then-is-5.ensures

pub returns-then-is-6 : goal.returns-then-is-6
returns-then-is-6 c = said-take _ _ _ _ _ (eqb-true _ _ (sym c.if-is-6.ensures)) c.if-l-ne0.false c.if-l-ne0-2.false c.task_with-then-is-6.ensures

pub returns : goal.returns
returns c = said-cam _ _ _ _ _ (eqb-true _ _ (sym c.if-not-is.ensures)) c.if-l-ne0.false c.if-l-ne0-2.false c.task_with-2.ensures
