-- `rows::RowWords::equal` meets its contract: the loop has counted among the first j nodes.
use mathlib.Core.Path.{sym, ◌∙◌}
use mathlib.Core.Bool.{Bool}
use Prim.Native.Nat.{ℕ, ◌+◌}
use native.Mathlib.Omega.{arith}
use borrow.Author.Rules.{rules}
use Rattle.array.proofs.IndexLaws.{how_many-none}
use Rattle.array.proofs.LoopLaws.{counted-hit, counted-miss, counted-all}
use Rattle.rows.specs.Code.{same_row}
use Rattle.rows.proofs.RowWords.equal.Goals as goal
use Rattle.rows.proofs.RowWords.equal.Goals.{else-same_row, then-same_row}

pub loop-j-init : goal.loop-j-init
loop-j-init c = (search rules, search rules, sym (how_many-none _), search rules)

pub loop-j-preserved : goal.loop-j-preserved
loop-j-preserved c = let l = c.loop-j in
    let a = c.args in
    let q : ℕ → Bool = λ k. same_row a.width a.self.now.counters a.self.now.cells (k + 1) in
    elim c.if-same_row.branch [ then-same_row w ↦ (search rules, search rules, w.same-is ∙ counted-hit q l.j l.invariant.2 (sym c.same_row.ensures ∙ w.if-same_row.true), omega (arith, w.same-is, l.invariant.3)) | else-same_row w ↦ (search rules, search rules, w.same-is ∙ counted-miss q l.j l.invariant.2 (sym c.same_row.ensures ∙ w.if-same_row.false), omega (arith, w.same-is, l.invariant.3)) ]

pub returns : goal.returns
returns c = counted-all _ _ c.loop-j.invariant.2 (omega arith)
