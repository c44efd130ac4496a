-- `row_word::step::good_holders` meets its contract: with no bad node all words are good ones', else those of the first j nodes are counted.
use mathlib.Core.Path.{◌≡◌, ap, ◌∙◌}
use Prim.Native.Nat.{ℕ}
use native.Mathlib.Omega.{arith}
use lib.ListN.{get_or}
use borrow.Author.Rules.{rules}
use Rattle.ballot.specs.Majority.{holders}
use Rattle.ballot.proofs.ScanLaws.{holders-none}
use Rattle.row_word.specs.Code.{good_only}
use Rattle.row_word.proofs.HeardLaws.{holders-alone, good-counted, good-passed}
use Rattle.row_word.proofs.step.good_holders.Goals as goal
use Rattle.row_word.proofs.step.good_holders.Goals.{else-is_bad-words, then-is_bad-words}

pub returns-then-mask-eq0 : goal.returns-then-mask-eq0
returns-then-mask-eq0 c =
    let a = c.args in
    c.holders.ensures ∙ holders-alone a.mask a.nodes a.words.now c.if-mask-eq0.true a.x

pub loop-j-init : goal.loop-j-init
loop-j-init c = (search rules, search rules, holders-none _ _)

pub loop-j-preserved : goal.loop-j-preserved
loop-j-preserved c =
    let a = c.args in
    let l = c.loop-j in
    let w : ℕ → ℕ = λ k. get_or a.words.now k 0 in
    elim c.if-is_bad-words.branch [ then-is_bad-words v ↦ (search rules, omega (arith, v.held-is, l.invariant.1), v.held-is ∙ good-counted a.mask w l.j a.x c.is_bad.ensures l.invariant.2 v.if-is_bad-words.true) | else-is_bad-words v ↦ (search rules, omega (arith, v.held-is, l.invariant.1), v.held-is ∙ good-passed a.mask w l.j a.x c.is_bad.ensures l.invariant.2 v.if-is_bad-words.false) ]

pub returns : goal.returns
returns c =
    let a = c.args in
    let e : c.loop-j.j ≡ a.nodes = omega arith in
    c.loop-j.invariant.2 ∙ ap (λ (n : ℕ). holders (good_only a.mask (λ k. get_or a.words.now k 0)) n a.x) e
