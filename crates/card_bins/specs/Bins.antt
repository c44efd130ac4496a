-- The bins of a card: the first bytes of a list that may be longer. This layout is ours: one bin after another, each in a slot of a mark and a message; a mark of 1 is a filled
-- bin's, any other an empty one's. A mailbox has no marks, so what the vote hears is made of them.
use Rattle.std.specs.Prelude.{Bool, not, cond, ◌&&◌, ◌||◌, List, ◌∷◌, ◌++◌, ℕ, zero, suc, ◌+◌, ◌*◌, eqb, get_or, set, take, drop}
use Rattle.array.specs.Index.{all_below, joined, from}
use Rattle.memory.specs.Size.{cell_at}
use Rattle.memory.specs.Node.{bin_of, not_sent}

abbrev pub mark_size : ℕ
mark_size = 1

abbrev pub filled_mark : ℕ
filled_mark = 1

-- of a plan with so many cells
module _ (cells : ℕ) where
  abbrev pub slot_size : ℕ
  slot_size = mark_size + cell_at cells

  -- where bin j's mark stands
  abbrev pub slot_at : ℕ → ℕ
  slot_at j = j * slot_size

  unfoldable pub is_filled : List ℕ → ℕ → Bool
  is_filled bins j = eqb (get_or bins (slot_at j) 0) filled_mark

  -- "A bin delivered again replaces the first": bin j filled with a message, whatever it was
  unfoldable pub with_bin : ℕ → List ℕ → List ℕ → List ℕ
  with_bin j message bins = take (slot_at j) bins ++ ((filled_mark ∷ message) ++ drop (slot_at j + slot_size) bins)

  -- "entering compute empties all": the marks of bins 0 to n − 1; what the bins held stays
  unfoldable pub emptied : ℕ → List ℕ → List ℕ
  emptied zero bins = bins
  emptied (suc j) bins = set (emptied j bins) (slot_at j) 0

  -- bin j is the last empty one of n
  unfoldable pub last_empty : ℕ → List ℕ → ℕ → Bool
  last_empty n bins j = not (is_filled bins j) && all_below (λ i. eqb i j || is_filled bins i) n

  -- what the vote hears in bin j: "A bin still empty counts as not sent."
  unfoldable pub heard_in : List ℕ → ℕ → List ℕ
  heard_in bins j = cond (is_filled bins j) (bin_of (from 0 bins (slot_at j + mark_size) (cell_at cells))) (not_sent cells)

  unfoldable pub mailbox_in : ℕ → List ℕ → List ℕ
  mailbox_in n bins = joined (heard_in bins) n
