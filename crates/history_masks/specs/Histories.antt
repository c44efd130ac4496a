-- Request 2026-05: "each history that the press must live through". A history is the masks of a number of frames from power-on, the first frame's mask first.
use Rattle.std.specs.Prelude.{Bool, true, not, cond, ◌&&◌, List, [], ◌∷◌, map, ℕ, zero, suc, ◌*◌, ◌^◌, eqb, ltb}
use Rattle.array.specs.Index.{how_many, joined}
use Rattle.system.specs.Fault.{bad}
use Rattle.system.specs.Counts.{good_count}

-- Document 01: "A node is working in a frame if it is good in it and its count before was R." The count is what the masks of the frames before give, the newest first.
unfoldable pub works_after : ℕ → List ℕ → ℕ → ℕ → Bool
works_after period past mask i = not (bad mask i) && eqb (good_count period past i) period

-- "more than half of the nodes working"
unfoldable pub most_work : ℕ → ℕ → List ℕ → ℕ → Bool
most_work nodes period past mask = ltb nodes (2 * how_many (works_after period past mask) nodes)

-- "in which every frame has more than half of the nodes working": the frames with these masks, after those of the past
unfoldable pub lived : ℕ → ℕ → List ℕ → List ℕ → Bool
lived nodes period past [] = true
lived nodes period past (mask ∷ later) = most_work nodes period past mask && lived nodes period (mask ∷ past) later

-- all sequences of so many masks, "ascending as masks with the first frame leading"
unfoldable pub sequences : ℕ → ℕ → List (List ℕ)
sequences nodes zero = [] ∷ []
sequences nodes (suc k) = joined (λ mask. map (λ (later : List ℕ). mask ∷ later) (sequences nodes k)) (2 ^ nodes)

-- those of a list that pass a test, in its order
unfoldable pub selected : {A : Type 0} → (A → Bool) → List A → List A
selected q [] = []
selected q (x ∷ l) = cond (q x) (x ∷ selected q l) (selected q l)

-- "list the sequences of masks in which every frame has more than half of the nodes working": those of so many frames from power-on
unfoldable pub histories : ℕ → ℕ → ℕ → List (List ℕ)
histories nodes period k = selected (lived nodes period []) (sequences nodes k)
