-- `row_counter::step::settle_counters` meets its contract: the first j nodes have the counter.
use mathlib.Core.Path.{refl}
use Prim.Native.Nat.{suc}
use native.Mathlib.Omega.{arith}
use native.Mathlib.Numerals.{add-one}
use borrow.Author.Rules.{rules}
use Rattle.row_word.specs.Code.{is_good}
use Rattle.row_counter.proofs.PutLaws.{suc_apart, put-none, put-taken, put-left, put_all}
use Rattle.row_word.proofs.HeardLaws.{good-if}
use mathlib.Core.Path.{ap}
use mathlib.Core.Bool.{not}
use Rattle.row_counter.proofs.step.settle_counters.Goals as goal
use Rattle.row_counter.proofs.step.settle_counters.Goals.{else-not-is_bad, then-not-is_bad}

pub loop-j-init : goal.loop-j-init
loop-j-init c = let a = c.args in (search rules, search rules, search rules, put-none suc suc_apart (is_good a.mask) (λ i. a.counter) a.counters.now)

pub bounds-counters-j : goal.bounds-counters-j
bounds-counters-j c =
    let i = c.loop-j.invariant in
    omega (arith, i.1, i.2, i.3.size, c.loop-j-test.true)

pub loop-j-preserved : goal.loop-j-preserved
loop-j-preserved c =
    let a = c.args in
    let l = c.loop-j in
    let i = l.invariant in
    elim c.if-not-is_bad.branch [
      | then-not-is_bad w ↦ (
        search rules,
        i.1,
        i.2,
        rw w.counters-is
            (put-taken suc suc_apart (is_good a.mask) (λ k. a.counter) a.counters.now l.j i.3 (good-if a.mask l.j c.is_bad.ensures (ap not w.if-not-is_bad.true)) (add-one l.j)
            (omega (arith, i.1, i.2, c.loop-j-test.true)) refl),
      )
      | else-not-is_bad w ↦ (
        search rules,
        i.1,
        i.2,
        rw w.counters-is (put-left suc suc_apart (is_good a.mask) (λ k. a.counter) a.counters.now l.j i.3 (good-if a.mask l.j c.is_bad.ensures (ap not w.if-not-is_bad.false))),
      )
    ]

pub returns : goal.returns
returns c =
    let a = c.args in
    put_all suc suc_apart (is_good a.mask) (λ k. a.counter) a.counters.now c.loop-j.j c.loop-j.invariant.3 (omega arith)
