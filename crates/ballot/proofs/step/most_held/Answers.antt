-- `ballot::step::most_held` meets its contract: of the remembered value and the first i, `best` is the one that the most hold.
use mathlib.Core.Path.{◌≡◌, refl, sym, ap, ◌∙◌}
use native.Mathlib.Omega.{arith}
use borrow.Author.Rules.{rules}
use Rattle.ballot.specs.Majority.{holders}
use Rattle.ballot.specs.Code.{packed, best_from}
use Rattle.ballot.proofs.ScanLaws.{best-new, best-old}
use Rattle.ballot.proofs.PlaneLaws.{best-plane}
use Rattle.ballot.proofs.PackedLaws.{packed-in}
use Rattle.ballot.proofs.step.most_held.Goals as goal
use Rattle.ballot.proofs.step.most_held.Goals.{else-most-held, then-most-held}

pub loop-i-init : goal.loop-i-init
unfolding best_from
loop-i-init c = (search rules, refl, c.holders-most.ensures)

pub loop-i-preserved : goal.loop-i-preserved
loop-i-preserved c =
    let a = c.args in
    let h = c.holders-held.ensures in
    let l = c.loop-i in
    let put = packed a.values.now a.k in
    let here = packed-in a.values.now a.k l.i (search rules) in
    elim c.if-most-held.branch [
      | then-most-held w ↦ (
        search rules,
        w.best-is ∙ best-new put a.k a.remembered l.i l.invariant.1 here l.invariant.2 h w.if-most-held.true,
        w.most-is ∙ h ∙ ap (holders put a.k) (sym w.best-is),
      )
      | else-most-held w ↦ (
        search rules,
        w.best-is ∙ best-old put a.k a.remembered l.i l.invariant.1 here l.invariant.2 h w.if-most-held.false,
        w.most-is ∙ l.invariant.2 ∙ ap (holders put a.k) (sym w.best-is),
      )
    ]

pub returns : goal.returns
returns c =
    let a = c.args in
    let l = c.loop-i in
    let e : l.i ≡ a.k = omega arith in
    let put = packed a.values.now a.k in
    l.invariant.1 ∙ ap (best_from put a.k a.remembered) e ∙ best-plane put a.k a.remembered
