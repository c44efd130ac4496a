-- Document 01: "The plane hands on, for each actuator, the value that most nodes put out; of tied values, the one whose lowest-numbered holder is
-- lowest. All comparisons .. are of bits." Request 2026-06: "the plane remembers the value it last handed on for each actuator .. Of tied values the
-- remembered one wins; if it isn't among them, the old rule decides." A node may put out nothing.
use Rattle.std.specs.Prelude.{Bool, cond, ℕ, zero, suc, leb, ltb, Option, None, unwrap_or}
use Rattle.array.specs.Index.{all_below}
use Rattle.ballot.specs.Majority.{holders, backing}

-- the old rule: of what the first k put out, the value that the most of the n put out; of tied ones that of the lowest
unfoldable pub most_held : (ℕ → Option ℕ) → ℕ → ℕ → Option ℕ
most_held put n zero = None
most_held put n (suc k) = cond (ltb (backing put n (most_held put n k)) (backing put n (put k))) (put k) (most_held put n k)

-- no value that one of the n puts out has more holders than r
unfoldable pub none_more : (ℕ → Option ℕ) → ℕ → ℕ → Bool
none_more put n r = all_below (λ j. leb (backing put n (put j)) (holders put n r)) n

-- what is handed on, where r is remembered; r too where all n are silent
unfoldable pub plane : (ℕ → Option ℕ) → ℕ → ℕ → ℕ
plane put n r = cond (none_more put n r) r (unwrap_or (most_held put n n) r)
