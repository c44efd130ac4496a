-- Document 01: "The voted value is the pattern of the first bin that more than half of the bins share." Comparisons are of bits. A bin may hold nothing.
use Rattle.std.specs.Prelude.{Bool, false, cond, ℕ, zero, suc, ◌*◌, eqb, ltb, Option, None, Some}
use Rattle.array.specs.Index.{how_many}

-- whether a bin holds x
unfoldable pub holds : Option ℕ → ℕ → Bool
holds None x = false
holds (Some v) x = eqb v x

-- how many of the first n bins hold x
unfoldable pub holders : (ℕ → Option ℕ) → ℕ → ℕ → ℕ
holders bin n x = how_many (λ j. holds (bin j) x) n

-- how many of the n hold what one holds; none where that is nothing
unfoldable pub backing : (ℕ → Option ℕ) → ℕ → Option ℕ → ℕ
backing bin n None = 0
backing bin n (Some v) = holders bin n v

-- what a bin holds, where more than half of the n bins share it
unfoldable pub shared : (ℕ → Option ℕ) → ℕ → Option ℕ → Option ℕ
shared bin n None = None
shared bin n (Some v) = cond (ltb n (2 * holders bin n v)) (Some v) None

abbrev pub first_some : Option ℕ → Option ℕ → Option ℕ
first_some None o = o
first_some (Some v) o = Some v

-- the value of the first among the first i bins that more than half of the n share
unfoldable pub first_shared : (ℕ → Option ℕ) → ℕ → ℕ → Option ℕ
first_shared bin n zero = None
first_shared bin n (suc i) = first_some (first_shared bin n i) (shared bin n (bin i))

-- the voted value of n bins
unfoldable pub majority : (ℕ → Option ℕ) → ℕ → Option ℕ
majority bin n = first_shared bin n n

-- Request 2026-02: "A vote is to give, beside the value, how many bins hold it (0 where no value has more than half)."
unfoldable pub agreement : (ℕ → Option ℕ) → ℕ → ℕ
agreement bin n = backing bin n (majority bin n)

-- "Counters are voted first; with no such value, or one ≥ F, the node's own stays."
unfoldable pub or_own : ℕ → ℕ → Option ℕ → ℕ
or_own frames own None = own
or_own frames own (Some v) = cond (ltb v frames) v own
