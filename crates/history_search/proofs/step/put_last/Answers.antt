-- `history_search::step::put_last` meets its contract: history by history.
use mathlib.Core.Path.{◌≡◌, refl, sym, ap, ◌∙◌}
use mathlib.Core.List.{List}
use Prim.Native.Nat.{ℕ, ◌+◌, ◌-◌, ◌*◌, ◌^◌, ◌≤◌}
use native.Mathlib.Omega.{arith}
use lib.Bits.{or_lt}
use lib.ListN.{length}
use Rattle.array.specs.Code.{placed}
use Rattle.array.specs.Word.{bytes}
use Rattle.array.proofs.PlacedLaws.{placed-none, placed-length, placed-next}
use Rattle.history_masks.specs.Code.{last_bytes}
use Rattle.history_masks.proofs.CodeLaws.{mask-in, mask-out, masks-few, last-begin, last_within, last-hit, last-miss, last-longer}
use Rattle.history_search.proofs.step.put_last.Goals as goal
use Rattle.history_search.proofs.step.put_last.Goals.{then-most_work, else-most_work}

pub overflow_shl-masks : goal.overflow_shl-masks
overflow_shl-masks c = omega (arith, c.requires.0)

pub loop-mask-init : goal.loop-mask-init
loop-mask-init c =
    let none = last-begin c.args.most c.args.bad c.args.past c.args.frames 0 in
    (placed-none c.args.out.now c.args.at ∙ ap (placed c.args.out.now c.args.at) (sym none), omega (arith, ap length none), omega arith, refl)

pub most_work-requires : goal.most_work-requires
most_work-requires c =
    let now = c.loop-mask in
    let l = mask-in c.args.nodes now.mask c.requires.0 c.loop-mask-test.true in
    omega (arith, or_lt c.args.nodes c.args.bad now.mask c.requires.1 l, masks-few c.args.nodes c.requires.0)

pub overflow_mul-past : goal.overflow_mul-past
overflow_mul-past c =
    omega (arith, c.requires.2, mask-in c.args.nodes c.loop-mask.mask c.requires.0 c.loop-mask-test.true, masks-few c.args.nodes c.requires.0)

pub overflow_add-past : goal.overflow_add-past
overflow_add-past c =
    omega (arith, c.requires.2, mask-in c.args.nodes c.loop-mask.mask c.requires.0 c.loop-mask-test.true, masks-few c.args.nodes c.requires.0)

pub put_masks-requires : goal.put_masks-requires
put_masks-requires c =
    let now = c.loop-mask in
    let l = mask-in c.args.nodes now.mask c.requires.0 c.loop-mask-test.true in
    let t = sym c.most_work.ensures ∙ c.if-most_work.true in (
      c.requires.4,
      omega (
        arith,
        c.requires.3,
        now.invariant.1,
        now.invariant.3,
        last-longer c.args.most c.args.bad c.args.past c.args.frames now.mask t,
        last_within c.args.most c.args.bad c.args.past c.args.frames (now.mask + 1) (2 ^ c.args.nodes) (omega (arith, l)),
      ),
    )

pub overflow_add-end : goal.overflow_add-end
overflow_add-end c =
    let now = c.loop-mask in
    let l = mask-in c.args.nodes now.mask c.requires.0 c.loop-mask-test.true in
    let t = sym c.most_work.ensures ∙ c.if-most_work.true in
    omega (
      arith,
      c.well_formed,
      c.requires.3,
      now.invariant.1,
      last-longer c.args.most c.args.bad c.args.past c.args.frames now.mask t,
      last_within c.args.most c.args.bad c.args.past c.args.frames (now.mask + 1) (2 ^ c.args.nodes) (omega (arith, l)),
    )

pub loop-mask-smaller : goal.loop-mask-smaller
loop-mask-smaller c =
    omega (arith, mask-in c.args.nodes c.loop-mask.mask c.requires.0 c.loop-mask-test.true)

pub loop-mask-preserved : goal.loop-mask-preserved
loop-mask-preserved c =
    let now = c.loop-mask in
    let l = mask-in c.args.nodes now.mask c.requires.0 c.loop-mask-test.true in
    let fits : c.args.at ≤ length c.args.out.now = omega (arith, c.requires.3) in
    let whole = last_within c.args.most c.args.bad c.args.past c.args.frames (now.mask + 1) (2 ^ c.args.nodes) (omega (arith, l)) in
    elim c.if-most_work.branch [
      | then-most_work h ↦ let t = sym c.most_work.ensures ∙ h.if-most_work.true in
          let more = last-hit c.args.most c.args.bad c.args.past c.args.frames now.mask t in
          let laid = h.out-is ∙ h.put_masks.ensures ∙ placed-next c.args.out.now c.args.at (last_bytes c.args.most c.args.bad c.args.past c.args.frames now.mask) now.out (bytes c.args.frames (c.args.past * 256 + now.mask)) now.end now.invariant.0 now.invariant.1 fits ∙ ap (placed c.args.out.now c.args.at) (sym more) in
          (laid, omega (arith, h.end-is, now.invariant.1, last-longer c.args.most c.args.bad c.args.past c.args.frames now.mask t), omega (arith, l), ap length laid ∙ placed-length c.args.out.now c.args.at (last_bytes c.args.most c.args.bad c.args.past c.args.frames (now.mask + 1)) (omega (arith, whole, c.requires.3)))
      | else-most_work h ↦ let t = sym c.most_work.ensures ∙ h.if-most_work.false in
          let same = sym (last-miss c.args.most c.args.bad c.args.past c.args.frames now.mask t) in
          (h.out-is ∙ now.invariant.0 ∙ ap (placed c.args.out.now c.args.at) same, h.end-is ∙ now.invariant.1 ∙ ap (λ (b : List ℕ). c.args.at + length b) same, omega (arith, l), ap length h.out-is ∙ now.invariant.3)
    ]

pub shape_of-out : goal.shape_of-out
shape_of-out c = c.loop-mask.invariant.3

pub returns : goal.returns
returns c =
    let now = c.loop-mask in
    let all : now.mask ≡ 2 ^ c.args.nodes = omega (arith, now.invariant.2, mask-out c.args.nodes now.mask c.requires.0 c.loop-mask-test.false) in
    (now.invariant.1 ∙ ap (λ (m : ℕ). c.args.at + length (last_bytes c.args.most c.args.bad c.args.past c.args.frames m)) all, now.invariant.0 ∙ ap (λ (m : ℕ). placed c.args.out.now c.args.at (last_bytes c.args.most c.args.bad c.args.past c.args.frames m)) all)
