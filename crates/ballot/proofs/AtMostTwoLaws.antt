-- Request 2026-04: of one bin, or of two, more than half are all. So every bin holds a voted value, as many agree as there are bins or none. The plane, where two
-- values are tied, hands on the remembered one, if either node puts it out, else what node 0 does.
use Rattle.std.specs.Prelude.{Option, None, Some}
use mathlib.Core.Path.{◌≡◌, refl, sym, ap, ◌∙◌}
use mathlib.Core.Logic.{◌⊎◌, inl, inr}
use Prim.Native.Nat.{ℕ, ◌*◌, ◌≤◌, ◌<◌}
use native.Mathlib.Omega.{arith}
use native.Mathlib.Nat.{le_refl}
use lib.Dec.{eqb, ltb}
use borrow.Author.Tests.{eqb-true, eqb-false, ltb-true, ltb-false}
use Rattle.array.proofs.TestLaws.{split}
use Rattle.array.proofs.IndexLaws.{how_many-bound, how_many-all}
use Rattle.ballot.specs.Majority.{holds, holders, majority, agreement}
use Rattle.ballot.specs.Plane.{plane}
use Rattle.ballot.proofs.MajorityLaws.{holds-true, majority-some, holders-some}
use Rattle.ballot.proofs.ScanLaws.{holders-held}
use Rattle.ballot.proofs.PlaneLaws.{Lowest, Handed, plane-kept, plane-handed, holders-apart}
use Rattle.ballot.proofs.AgreementLaws.{holders-bound, agreement-none, agreement-of-most, agreement-half, agreement-bound}

module _ (bin : ℕ → Option ℕ) (n : ℕ) (two : n ≤ 2) where
  -- "More than half of two is two"
  most-all : (v : ℕ) → n < 2 * holders bin n v → (j : ℕ) → j < n → bin j ≡ Some v
  unfolding holders
  most-all v h j l =
      holds-true (bin j) v
      (how_many-all (λ k. holds (bin k) v) n (omega (arith, h, how_many-bound (λ k. holds (bin k) v) n)) j l)

  pub majority-all : (v : ℕ) → majority bin n ≡ Some v → (j : ℕ) → j < n → bin j ≡ Some v
  majority-all v e = most-all v (majority-some bin n v e)

  pub agreement-all : (agreement bin n ≡ n) ⊎ (agreement bin n ≡ 0)
  agreement-all = by (majority bin n) refl
    where
      by : (o : Option ℕ) → majority bin n ≡ o → (agreement bin n ≡ n) ⊎ (agreement bin n ≡ 0)
      by None e = inr (agreement-none bin n e)
      by (Some v) e = inl (omega (arith, two, agreement-half bin n v e, agreement-bound bin n))

  -- of two that differ the remembered one, if either puts it out
  pub plane-remembered : (r j : ℕ) → j < n → bin j ≡ Some r → plane bin n r ≡ r
  plane-remembered r j l e =
      plane-kept bin n r
      (λ w. split (eqb w r)
      (λ t. rw (eqb-true w r t) (le_refl _))
      (λ t. omega (arith, two, holders-held bin n j l e, holders-apart bin n w r (eqb-false w r t))))

  -- else what node 0 puts out
  pub plane-first : (r v : ℕ) → 0 < n → bin 0 ≡ Some v → ((j : ℕ) → j < n → bin j ≡ Some r → ⊥) → plane bin n r ≡ v
  plane-first r v l e nobody =
      let held : 0 < holders bin n v = holders-held bin n 0 l e in
      let h : Handed bin n r (plane bin n r) = plane-handed bin n r in
      let low : Lowest bin n (plane bin n r) = h.old (omega (arith, held, h.most v, unheld)) in
      split (eqb (plane bin n r) v)
      (eqb-true (plane bin n r) v)
      (λ t.
      let even : holders bin n v ≡ holders bin n (plane bin n r) =
      omega (arith, two, held, h.most v, holders-apart bin n (plane bin n r) v (eqb-false (plane bin n r) v t)) in
      let lowest : low.holder ≤ 0 = low.lowest 0 v l e even in
      let zeroth : low.holder ≡ 0 = omega arith in
      let one : Some (plane bin n r) ≡ Some v = sym low.holds ∙ ap bin zeroth ∙ e in
      cc)
    where
      unheld : holders bin n r ≤ 0
      unheld =
          split (ltb 0 (holders bin n r))
          (λ t. let s = holders-some bin n r (ltb-true _ _ t) in absurd (nobody s.0 s.1 s.2))
          (ltb-false 0 (holders bin n r))

-- a bin by itself is more than half
pub agreement-one : (bin : ℕ → Option ℕ) (v : ℕ) → bin 0 ≡ Some v → agreement bin 1 ≡ 1
agreement-one bin v e =
    let held : 0 < holders bin 1 v = holders-held bin 1 0 (omega arith) e in
    omega (arith, agreement-of-most bin 1 v (omega (arith, held)), held, holders-bound bin 1 v)
