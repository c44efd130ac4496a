-- `row_word::step::good_ones` meets its contract: the first k are the words of the good ones among the first j nodes.
use Rattle.std.specs.Prelude.{Option}
use mathlib.Core.Path.{◌≡◌, ap, ◌∙◌}
use Prim.Native.Nat.{ℕ}
use native.Mathlib.Omega.{arith}
use lib.ListN.{length, get_or, length-set}
use borrow.Author.Rules.{rules}
use Rattle.ballot.proofs.PackedLaws.{packed_none, packed-held, packed-silent}
use Rattle.row_word.specs.Code.{good_only}
use Rattle.row_word.proofs.HeardLaws.{good-if, good_none, good-some}
use mathlib.Core.Bool.{not}
use Rattle.row_word.proofs.step.good_ones.Goals as goal
use Rattle.row_word.proofs.step.good_ones.Goals.{else-not-is_bad, then-not-is_bad}

pub loop-j-init : goal.loop-j-init
loop-j-init c = (search rules, search rules, search rules, packed_none (good_only c.args.mask (λ i. get_or c.args.words.now i 0)) _)

pub loop-j-preserved : goal.loop-j-preserved
loop-j-preserved c =
    let a = c.args in
    let q = c.requires in
    let l = c.loop-j in
    let i = l.invariant in
    let word : ℕ → ℕ = λ k. get_or a.words.now k 0 in
    let bin : ℕ → Option ℕ = good_only a.mask word in
    elim c.if-not-is_bad.branch [
      | then-not-is_bad w ↦
          let good = good-if a.mask l.j c.is_bad.ensures (ap not w.if-not-is_bad.true) in (
            search rules,
            omega (arith, w.k-is, i.1),
            ap length w.good-is ∙ length-set l.good _ _ ∙ i.2,
            rw (w.good-is, w.k-is) (packed-held bin l.good l.k l.j (word l.j) (omega (arith, i.1, i.2, q, c.loop-j-test.true)) (good-some a.mask word l.j good) i.3),
          )
      | else-not-is_bad w ↦
          let bad = good-if a.mask l.j c.is_bad.ensures (ap not w.if-not-is_bad.false) in (
            search rules,
            omega (arith, w.k-is, i.1),
            ap length w.good-is ∙ i.2,
            rw (w.good-is, w.k-is) (packed-silent bin l.good l.k l.j (good_none a.mask word l.j bad) i.3),
          )
    ]

pub returns : goal.returns
returns c =
    let a = c.args in
    let l = c.loop-j in
    let e : l.j ≡ a.nodes = omega arith in
    record { few = omega (arith, l.invariant.1); alike = rw e at l.invariant.3 }
