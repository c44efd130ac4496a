-- `ballot::step::holders` meets its contract: the loop has counted among the first j values.
use mathlib.Core.Path.{◌≡◌, ap, ◌∙◌}
use Prim.Native.Nat.{ℕ}
use native.Mathlib.Omega.{arith}
use borrow.Author.Rules.{rules}
use Rattle.ballot.specs.Majority.{holders}
use Rattle.ballot.specs.Code.{packed}
use Rattle.ballot.proofs.ScanLaws.{holders-none}
use Rattle.ballot.proofs.PackedLaws.{packed-hit, packed-miss}
use Rattle.ballot.proofs.step.holders.Goals as goal
use Rattle.ballot.proofs.step.holders.Goals.{else-values-j, then-values-j}

pub loop-j-init : goal.loop-j-init
loop-j-init c = (search rules, holders-none _ _, search rules)

pub loop-j-preserved : goal.loop-j-preserved
loop-j-preserved c =
    let a = c.args in
    let l = c.loop-j in
    elim c.if-values-j.branch [ then-values-j w ↦ (search rules, w.held-is ∙ packed-hit a.values.now a.k l.j (search rules) l.invariant.1 w.if-values-j.true, search rules) | else-values-j w ↦ (search rules, w.held-is ∙ packed-miss a.values.now a.k l.j (search rules) l.invariant.1 w.if-values-j.false, search rules) ]

pub returns : goal.returns
returns c =
    let a = c.args in
    let e : c.loop-j.j ≡ a.k = omega arith in
    c.loop-j.invariant.1 ∙ ap (λ (n : ℕ). holders (packed a.values.now a.k) n a.x) e
