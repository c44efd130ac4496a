-- Laws of values that are what bins hold, in their order: a loop that reads them one by one, and the plane on them.
use Rattle.std.specs.Prelude.{Option, Some}
use mathlib.Core.Path.{◌≡◌, sym, ap, ◌∙◌}
use mathlib.Core.List.{List}
use Prim.Native.Nat.{ℕ, ◌+◌, ◌<◌}
use native.Mathlib.Omega.{arith}
use native.Mathlib.Nat.{not-suc-le-zero}
use lib.Dec.{eqb}
use lib.ListN.{length, set}
use lib.Seq.{get_or-set_same, get_or-set_other}
use borrow.Author.Tests.{eqb-true, eqb-false}
use Rattle.array.proofs.TestLaws.{split}
use Rattle.ballot.specs.Plane.{plane}
use Rattle.ballot.specs.Code.{packed, Packs, Told}
use Rattle.ballot.proofs.MajorityLaws.{holders-same}
use Rattle.ballot.proofs.PlaneLaws.{plane-same}
use Rattle.ballot.proofs.PackedLaws.{packed-in}

module _ (bin : ℕ → Option ℕ) (values : List ℕ) where
  pub told_none : Told bin 0 values
  told_none j l = absurd (not-suc-le-zero l)

  pub told-next : (j w : ℕ) → j < length values → bin j ≡ Some w → Told bin j values → Told bin (j + 1) (set values j w)
  told-next j w l e t i m =
      split (eqb i j)
      (λ q. rw (eqb-true i j q, get_or-set_same values j w 0 l) e)
      (λ q. t i (omega (arith, eqb-false i j q)) ∙ ap Some (sym (get_or-set_other values j i w 0 (eqb-false i j q))))

module _ (bin : ℕ → Option ℕ) (n : ℕ) (values : List ℕ) (t : Told bin n values) where
  pub told-packs : Packs bin n values n
  told-packs = record { few = omega arith; alike = λ v. holders-same (packed values n) bin n v (λ j l. packed-in values n j l ∙ sym (t j l)) }

  pub told-plane : (r : ℕ) → plane (packed values n) n r ≡ plane bin n r
  told-plane r = plane-same (packed values n) bin n r (λ j l. packed-in values n j l ∙ sym (t j l))

pub told-to : (bin : ℕ → Option ℕ) (values : List ℕ) {j n : ℕ} → Told bin j values → j ≡ n → Told bin n values
told-to bin values t e = rw e at t
