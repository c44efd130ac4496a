-- Laws of a vote's agreement: above 0 exactly where there is a voted value, then above half; and what each of a vote's cases gives.
use Rattle.std.specs.Prelude.{Option, None, Some}
use mathlib.Core.Path.{◌≡◌, refl, ap, ◌∙◌}
use Prim.Native.Nat.{ℕ, ◌*◌, ◌≤◌, ◌<◌}
use native.Mathlib.Omega.{arith}
use Rattle.array.proofs.IndexLaws.{how_many-bound}
use Rattle.ballot.specs.Majority.{holds, holders, backing, majority, agreement}
use Rattle.ballot.proofs.MajorityLaws.{backing-same, majority-some, majority-of-most, majority-same}

pub holders-bound : (bin : ℕ → Option ℕ) (n v : ℕ) → holders bin n v ≤ n
unfolding holders
holders-bound bin n v = how_many-bound (λ j. holds (bin j) v) n

module _ (bin : ℕ → Option ℕ) (n : ℕ) where
  pub agreement-some : (x : ℕ) → majority bin n ≡ Some x → agreement bin n ≡ holders bin n x
  unfolding agreement backing
  agreement-some x e = rw e

  pub agreement-none : majority bin n ≡ None → agreement bin n ≡ 0
  unfolding agreement backing
  agreement-none e = rw e

  -- of a value that more than half hold it counts the holders
  pub agreement-of-most : (v : ℕ) → n < 2 * holders bin n v → agreement bin n ≡ holders bin n v
  agreement-of-most v h = agreement-some v (majority-of-most bin n v h)

  pub agreement-bound : agreement bin n ≤ n
  agreement-bound = by (majority bin n) refl
    where
      by : (o : Option ℕ) → majority bin n ≡ o → agreement bin n ≤ n
      by None e = rw (agreement-none e) (omega arith)
      by (Some x) e = rw (agreement-some x e) (holders-bound bin n x)

  -- above 0 exactly where there is a voted value, and then above half
  pub agreement-half : (x : ℕ) → majority bin n ≡ Some x → n < 2 * agreement bin n
  agreement-half x e = rw (agreement-some x e) (majority-some bin n x e)

  pub agreement-value : 0 < agreement bin n → (x : ℕ) × (majority bin n ≡ Some x)
  agreement-value h = by (majority bin n) refl
    where
      by : (o : Option ℕ) → majority bin n ≡ o → (x : ℕ) × (majority bin n ≡ Some x)
      by None e = absurd (omega (arith, agreement-none e))
      by (Some x) e = (x, e)

pub agreement-same : (f g : ℕ → Option ℕ) (n : ℕ) → ((j : ℕ) → j < n → f j ≡ g j) → agreement f n ≡ agreement g n
unfolding agreement
agreement-same f g n e = backing-same f g n e (majority f n) ∙ ap (backing g n) (majority-same f g n e)
