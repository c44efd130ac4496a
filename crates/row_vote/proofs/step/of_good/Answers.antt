-- `row_vote::step::of_good` meets its contract: the first j nodes are bad.
use mathlib.Core.Path.{sym, ◌∙◌}
use native.Mathlib.Omega.{arith}
use native.Mathlib.Nat.{not-suc-le-zero}
use borrow.Author.Count.{below_more}
use borrow.Author.Rules.{rules}
use Rattle.array.specs.Bit.{bit}
use Rattle.array.proofs.IndexLaws.{all_below-all, all_below-fails}
use Rattle.row_vote.proofs.step.of_good.Goals as goal

pub loop-j-init : goal.loop-j-init
loop-j-init c = (search rules, λ k l. absurd (not-suc-le-zero l))

pub returns-then-not-is_bad : goal.returns-then-not-is_bad
returns-then-not-is_bad c =
    let a = c.args in
    rw (all_below-fails (λ j. bit a.mask j) a.nodes c.loop-j.j c.loop-j-test.true (sym c.is_bad.ensures ∙ c.if-not-is_bad.true))

pub loop-j-preserved : goal.loop-j-preserved
loop-j-preserved c = (search rules, below_more _ _ c.loop-j.invariant.1 (sym c.is_bad.ensures ∙ c.if-not-is_bad.false))

pub returns : goal.returns
returns c =
    let a = c.args in
    rw (all_below-all (λ j. bit a.mask j) a.nodes (λ k l. c.loop-j.invariant.1 k (omega arith)))
