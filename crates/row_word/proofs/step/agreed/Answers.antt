-- `row_word::step::agreed` meets its contract: of the first i nodes the good ones have counted, and none can bring the least below the good holders.
use Rattle.std.specs.Prelude.{Option}
use mathlib.Core.Path.{◌≡◌, ◌∙◌, ap}
use Prim.Native.Nat.{ℕ}
use native.Mathlib.Omega.{arith}
use lib.ListN.{get_or}
use borrow.Author.Rules.{rules}
use Rattle.array.specs.Index.{lesser, least}
use Rattle.array.proofs.LeastLaws.{least-none, least-taken, least-left}
use Rattle.ballot.specs.Majority.{holders}
use Rattle.row_word.specs.Code.{is_good, fault_word, heard_word}
use Rattle.row_word.proofs.HeardLaws.{good-if}
use Rattle.row_word.proofs.AgreementLaws.{low-reached}
use mathlib.Core.Bool.{not}
use Rattle.row_word.proofs.step.agreed.Goals as goal
use Rattle.row_word.proofs.step.agreed.Goals.{else-not-is_bad, then-not-is_bad}

pub loop-i-init : goal.loop-i-init
loop-i-init c = (search rules, least-none _ _ _)

pub holders-requires : goal.holders-requires
holders-requires c = omega (arith, c.heard-told.ensures.few, c.args.faults.now.small.nodes)

pub loop-i-preserved : goal.loop-i-preserved
loop-i-preserved c =
    let a = c.args in
    let l = c.loop-i in
    let bin : ℕ → ℕ → Option ℕ = heard_word a.faults.now.sizes a.faults.now.mask a.faults.now.bytes.now (λ j. get_or a.words.now j 0) a.w in
    let count : ℕ → ℕ = λ k. holders (bin k) a.faults.now.sizes.nodes a.x in
    elim c.if-not-is_bad.branch [
      | then-not-is_bad w ↦ (
        search rules,
        w.agreed-is
            ∙ w.min-agreed.ensures
            ∙ least-taken (is_good a.faults.now.mask) count a.low l.i l.invariant.1 (good-if a.faults.now.mask l.i c.is_bad.ensures (ap not w.if-not-is_bad.true))
            (w.holders.ensures ∙ w.heard-told.ensures.alike a.x),
      )
      | else-not-is_bad w ↦ (search rules, w.agreed-is ∙ least-left (is_good a.faults.now.mask) count a.low l.i l.invariant.1 (good-if a.faults.now.mask l.i c.is_bad.ensures (ap not w.if-not-is_bad.false)))
    ]

pub returns-after-loop-i : goal.returns-after-loop-i
returns-after-loop-i c =
    let a = c.args in
    let e : c.loop-i.i ≡ a.faults.now.sizes.nodes = omega arith in
    c.loop-i.invariant.1 ∙ ap (λ (k : ℕ). lesser a.low (least (is_good a.faults.now.mask) (λ i. holders (heard_word a.faults.now.sizes a.faults.now.mask a.faults.now.bytes.now (λ j. get_or a.words.now j 0) a.w i) a.faults.now.sizes.nodes a.x) k)) e

pub returns-then-agreed-held : goal.returns-then-agreed-held
returns-then-agreed-held c =
    let a = c.args in
    low-reached a.faults.now.mask a.faults.now.sizes.nodes a.low (fault_word a.faults.now.sizes a.faults.now.mask a.faults.now.bytes.now a.w) (λ j. get_or a.words.now j 0) a.x c.requires.1 c.loop-i.i c.loop-i.invariant.0 c.loop-i.invariant.1 c.if-agreed-held.true
