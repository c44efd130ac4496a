-- The code's own: values packed into the front of an array. No definition of document 01 cites these.
use Rattle.std.specs.Prelude.{◌≡◌, cond, List, ℕ, zero, suc, ◌≤◌, ◌<◌, ltb, get_or, Option, None, Some, unwrap_or}
use Rattle.ballot.specs.Majority.{holders, backing}

-- bins of which the first k hold the first k values of an array, and the others nothing
unfoldable pub packed : List ℕ → ℕ → ℕ → Option ℕ
packed values k j = cond (ltb j k) (Some (get_or values j 0)) None

-- the first k values of an array are those that n bins hold: each is there as often
pub record Packs (bin : ℕ → Option ℕ) (n : ℕ) (values : List ℕ) (k : ℕ) : Type 0 where
  pub few : k ≤ n
  pub alike : (v : ℕ) → holders (packed values k) k v ≡ holders bin n v

-- the first n values of an array are what n bins hold, in their order
abbrev pub Told : (ℕ → Option ℕ) → ℕ → List ℕ → Type 0
Told bin n values = (j : ℕ) → j < n → bin j ≡ Some (get_or values j 0)

-- the best of the remembered value and of what the first k put out, by a loop over these
unfoldable pub best_from : (ℕ → Option ℕ) → ℕ → ℕ → ℕ → ℕ
best_from put n r zero = r
best_from put n r (suc k) = cond (ltb (holders put n (best_from put n r k)) (backing put n (put k))) (unwrap_or (put k) r) (best_from put n r k)
