-- Document 01, 'Faults': the good counts of the nodes, by the recovery period R and masks alone.
use Rattle.std.specs.Prelude.{Bool, not, cond, ◌&&◌, List, [], ◌∷◌, ℕ, ◌+◌, min, eqb, get_or}
use Rattle.system.specs.Fault.{bad}

-- "A bad node's count becomes 0; a good one's rises by 1 up to R."
unfoldable pub count_after : ℕ → Bool → ℕ → ℕ
count_after period is_bad count = cond is_bad 0 (min period (count + 1))

-- node i's count after a frame, from the counts before it
unfoldable pub good_after : ℕ → ℕ → List ℕ → ℕ → ℕ
good_after period mask good i = count_after period (bad mask i) (get_or good i 0)

-- "A node is working in a frame if it is good in it and its count before was R."
unfoldable pub is_working : ℕ → ℕ → List ℕ → ℕ → Bool
is_working period mask good i = not (bad mask i) && eqb (get_or good i 0) period

-- the count that masks give node i: those of the frames since power-on, the newest first. "n good counts, each R" at power-on
unfoldable pub good_count : ℕ → List ℕ → ℕ → ℕ
good_count period [] i = period
good_count period (mask ∷ past) i = count_after period (bad mask i) (good_count period past i)
