-- `ballot::step::majority` meets its contract: too few hold each value before i, and the inner loop has counted those that hold value i.
use mathlib.Core.Path.{◌≡◌, refl, sym, ap, ◌∙◌}
use Prim.Native.Nat.{ℕ, ◌+◌, ◌*◌, ◌≤◌}
use native.Mathlib.Omega.{arith}
use native.Mathlib.Nat.{not-suc-le-zero}
use lib.ListN.{get_or}
use borrow.Author.Count.{below_more}
use borrow.Author.Rules.{rules}
use Rattle.ballot.specs.Majority.{holders}
use Rattle.ballot.specs.Code.{packed}
use Rattle.ballot.proofs.MajorityLaws.{majority-of-most}
use Rattle.ballot.proofs.ScanLaws.{holders-none, holders-grows}
use Rattle.ballot.proofs.PackedLaws.{packed-hit, packed-miss, packed-few}
use Rattle.ballot.proofs.step.majority.Goals as goal
use Rattle.ballot.proofs.step.majority.Goals.{then-values-j+else-n-held, else-values-j}

pub candidates-init : goal.candidates-init
candidates-init c = (search rules, refl, λ j l. absurd (not-suc-le-zero l))

pub loop-j-init : goal.loop-j-init
loop-j-init c = (search rules, holders-none _ _, search rules, search rules, c.candidates.invariant.1)

pub loop-j-preserved : goal.loop-j-preserved
loop-j-preserved c =
    let a = c.args in
    let l = c.loop-j in
    elim c.if-values-j.branch [ then-values-j+else-n-held w ↦ (search rules, w.held-is ∙ packed-hit a.values.now a.k l.j (search rules) l.invariant.1 w.if-values-j.true, search rules, search rules, l.invariant.4) | else-values-j w ↦ (search rules, w.held-is ∙ packed-miss a.values.now a.k l.j (search rules) l.invariant.1 w.if-values-j.false, search rules, search rules, l.invariant.4) ]

pub candidates-preserved : goal.candidates-preserved
candidates-preserved c =
    let a = c.args in
    let l = c.loop-j in
    let o = c.candidates in
    let values = a.values.now in
    let e : l.j ≡ a.k = omega arith in
    let few : 2 * holders (packed values a.k) a.k (get_or values o.i 0) ≤ a.n =
    omega (arith, l.invariant.1 ∙ ap (λ (j : ℕ). holders (packed values a.k) j (get_or values o.i 0)) e) in
    (search rules, l.invariant.4, below_more _ _ o.invariant.2 few)

pub returns-after-candidates : goal.returns-after-candidates
returns-after-candidates c =
    let a = c.args in
    let o = c.candidates in
    let e : a.k ≤ o.i = omega arith in
    o.invariant.1 ∙ sym (packed-few a.values.now a.k a.n (search rules) (λ j l. o.invariant.2 j (omega arith)))

pub returns-then-n-held : goal.returns-then-n-held
returns-then-n-held c =
    let a = c.args in
    let l = c.loop-j in
    let i = c.candidates.i in
    let bin = packed a.values.now a.k in
    let x = get_or a.values.now i 0 in
    let held : l.held + 1 ≡ holders bin (l.j + 1) x =
    packed-hit a.values.now a.k l.j (search rules) l.invariant.1 c.if-values-j.true in
    sym (majority-of-most bin a.n x (omega (arith, holders-grows bin x (l.j + 1) a.n (search rules))))
