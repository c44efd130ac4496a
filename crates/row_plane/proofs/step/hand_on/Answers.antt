-- `row_plane::step::hand_on` meets its contract: the first a values are handed on.
use mathlib.Core.Path.{◌≡◌, sym, ap, ◌∙◌}
use mathlib.Core.List.{List}
use Prim.Native.Nat.{ℕ}
use native.Mathlib.Omega.{arith}
use native.Mathlib.Nat.{le_refl}
use lib.ListN.{get_or}
use borrow.Author.Rules.{rules}
use Rattle.array.specs.Index.{fill}
use Rattle.array.proofs.LoopLaws.{stored_next, stored-all}
use Rattle.array.proofs.PlacesLaws.{fill_none, fill-out}
use Rattle.row_plane.specs.Code.{put_from}
use Rattle.row_plane.proofs.PutLaws.{plane-told}
use Rattle.row_plane.proofs.step.hand_on.Goals as goal

pub loop-a-init : goal.loop-a-init
loop-a-init c = (search rules, sym (fill_none _ _))

-- an entry that is not reached yet is the remembered one
remembered : (f : ℕ → ℕ) (a : ℕ) (seen₀ : List ℕ) {seen : List ℕ} → seen ≡ fill f a seen₀ → get_or seen a 0 ≡ get_or seen₀ a 0
remembered f a seen₀ e = ap (λ (l : List ℕ). get_or l a 0) e ∙ fill-out f a seen₀ a 0 (le_refl a)

pub put_out-values-requires : goal.put_out-values-requires
put_out-values-requires c = let q = c.requires in (q c.loop-a.a c.loop-a-test.true, c.loop-a-test.true)

pub loop-a-preserved : goal.loop-a-preserved
loop-a-preserved c = let a = c.args in
    let l = c.loop-a in (
      search rules,
      stored_next _ l.a _ l.invariant.1
          (plane-told (put_from a.faults.now.sizes a.faults.now.mask a.faults.now.bytes.now a.cells.now (get_or a.table.now l.a 0) l.a) a.faults.now.sizes.nodes _ c.put_out-values.ensures
          (remembered _ l.a a.seen.now l.invariant.1) c.plane.ensures),
    )

pub returns : goal.returns
returns c = stored-all _ _ _ c.loop-a.invariant.1 (omega arith)
