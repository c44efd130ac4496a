-- `history_search::step::count_last` meets its contract: mask by mask.
use mathlib.Core.Path.{sym, ◌∙◌}
use mathlib.Core.Bool.{Bool}
use Prim.Native.Nat.{ℕ, ◌-◌}
use native.Mathlib.Omega.{arith}
use lib.Bits.{bit_or, or_lt}
use Rattle.array.specs.Bit.{bit}
use Rattle.array.proofs.IndexLaws.{how_many-none, how_many-bound}
use Rattle.array.proofs.LoopLaws.{counted-hit, counted-miss, counted-all}
use Rattle.history_masks.proofs.CodeLaws.{mask-in, mask-out, masks-few}
use Rattle.history_search.proofs.step.count_last.Goals as goal
use Rattle.history_search.proofs.step.count_last.Goals.{then-most_work, else-most_work}

pub overflow_shl-masks : goal.overflow_shl-masks
overflow_shl-masks c = omega (arith, c.requires.0)

pub loop-mask-init : goal.loop-mask-init
loop-mask-init c =
    (sym (how_many-none (λ m. bit c.args.most (bit_or c.args.bad m))), omega arith)

pub most_work-requires : goal.most_work-requires
most_work-requires c =
    let now = c.loop-mask in
    let l = mask-in c.args.nodes now.mask c.requires.0 c.loop-mask-test.true in
    omega (arith, or_lt c.args.nodes c.args.bad now.mask c.requires.1 l, masks-few c.args.nodes c.requires.0)

pub overflow_add-total : goal.overflow_add-total
overflow_add-total c =
    let now = c.loop-mask in
    omega (arith, now.invariant.0, now.invariant.1, how_many-bound (λ m. bit c.args.most (bit_or c.args.bad m)) now.mask, masks-few c.args.nodes c.requires.0)

pub loop-mask-smaller : goal.loop-mask-smaller
loop-mask-smaller c =
    omega (arith, mask-in c.args.nodes c.loop-mask.mask c.requires.0 c.loop-mask-test.true)

pub loop-mask-preserved : goal.loop-mask-preserved
loop-mask-preserved c =
    let now = c.loop-mask in
    let q : ℕ → Bool = λ m. bit c.args.most (bit_or c.args.bad m) in (
      elim c.if-most_work.branch [ then-most_work h ↦ h.total-is ∙ counted-hit q now.mask now.invariant.0 (sym c.most_work.ensures ∙ h.if-most_work.true) | else-most_work h ↦ h.total-is ∙ counted-miss q now.mask now.invariant.0 (sym c.most_work.ensures ∙ h.if-most_work.false) ],
      omega (arith, mask-in c.args.nodes now.mask c.requires.0 c.loop-mask-test.true),
    )

pub returns : goal.returns
returns c =
    let now = c.loop-mask in
    counted-all (λ m. bit c.args.most (bit_or c.args.bad m)) now.mask now.invariant.0
    (omega (arith, now.invariant.1, mask-out c.args.nodes now.mask c.requires.0 c.loop-mask-test.false))
