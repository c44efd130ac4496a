-- `row_counter::step::counters_each` meets its contract: of the first i nodes the good ones have counted.
use Rattle.std.specs.Prelude.{Option}
use mathlib.Core.Path.{◌≡◌, sym, ap, ◌∙◌}
use mathlib.Core.Bool.{not}
use Prim.Native.Nat.{ℕ, suc}
use native.Mathlib.Numerals.{add-one}
use native.Mathlib.Omega.{arith}
use lib.ListN.{get_or}
use borrow.Author.Rules.{rules}
use Rattle.array.specs.Index.{lesser, least}
use Rattle.array.proofs.LeastLaws.{least-none, least-taken, least-left}
use Rattle.ballot.specs.Majority.{agreement}
use Rattle.ballot.proofs.PackedLaws.{packs-agreement}
use Rattle.row_word.specs.Code.{is_good, heard_word}
use Rattle.row_counter.proofs.PutLaws.{suc_apart, put-none, put-still, put-taken, put-left, put_all}
use Rattle.row_counter.proofs.HeardLaws.{counted-own}
use Rattle.row_counter.proofs.step.counters_each.Goals as goal
use Rattle.row_counter.proofs.step.counters_each.Goals.{else-not-is_bad, then-not-is_bad}

pub loop-i-init : goal.loop-i-init
loop-i-init c = (search rules, search rules, put-none suc suc_apart _ _ _, least-none _ _ _)

pub majority-v-requires : goal.majority-v-requires
majority-v-requires c = (c.heard-all.ensures.few, c.args.faults.now.small.nodes)

pub agreement-requires : goal.agreement-requires
agreement-requires c = omega (arith, c.heard-all.ensures.few, c.args.faults.now.small.nodes)

pub loop-i-preserved : goal.loop-i-preserved
loop-i-preserved c =
    let l = c.loop-i in
    let a = c.args in
    let bin : ℕ → ℕ → Option ℕ = heard_word a.faults.now.sizes a.faults.now.mask a.faults.now.bytes.now (λ j. get_or a.words.now j 0) 0 in
    let count : ℕ → ℕ = λ k. agreement (bin k) a.faults.now.sizes.nodes in
    let still = ap (λ k. get_or l.counters k 0) (add-one l.i) ∙ put-still suc suc_apart _ _ a.counters.now l.i l.invariant.2 in
    let good = ap not (sym c.is_bad.ensures) in
    elim c.if-not-is_bad.branch [
      | then-not-is_bad w ↦ (
        search rules,
        l.invariant.1,
        rw w.counters-is (put-taken suc suc_apart _ _ a.counters.now l.i l.invariant.2 (good ∙ (ap not w.if-not-is_bad.true)) (add-one l.i) (omega (arith, l.invariant.1, a.faults.now.small.nodes, c.loop-i-test.true)) (counted-own (bin l.i) a.faults.now.sizes.nodes _ w.heard-all.ensures w.majority-v.ensures still w.or_own.ensures)),
        w.agreed-is
            ∙ w.min-agreed.ensures
            ∙ least-taken (is_good a.faults.now.mask) count a.low l.i l.invariant.3 (good ∙ (ap not w.if-not-is_bad.true))
            (packs-agreement (bin l.i) a.faults.now.sizes.nodes w.heard-all.ensures w.majority-v.ensures w.agreement.ensures),
      )
      | else-not-is_bad w ↦ (search rules, l.invariant.1, rw w.counters-is (put-left suc suc_apart _ _ a.counters.now l.i l.invariant.2 (good ∙ (ap not w.if-not-is_bad.false))), w.agreed-is ∙ least-left (is_good a.faults.now.mask) count a.low l.i l.invariant.3 (good ∙ (ap not w.if-not-is_bad.false)))
    ]

pub returns : goal.returns
returns c =
    let a = c.args in
    let l = c.loop-i in
    let e : l.i ≡ a.faults.now.sizes.nodes = omega arith in (
      put_all suc suc_apart _ _ a.counters.now l.i l.invariant.2 e,
      l.invariant.3
          ∙ ap (λ (k : ℕ). lesser a.low (least (is_good a.faults.now.mask) (λ i. agreement (heard_word a.faults.now.sizes a.faults.now.mask a.faults.now.bytes.now (λ j. get_or a.words.now j 0) 0 i) a.faults.now.sizes.nodes) k)) e,
    )
