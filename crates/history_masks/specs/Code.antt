-- The code's own: the masks of a history's frames so far as one number, a byte a mask, the newest lowest, and what goes on from them. No definition of what a call answers cites these.
use Rattle.std.specs.Prelude.{◌≡◌, true, cond, ℕ, zero, suc, ◌+◌, ◌*◌, ◌/◌, ◌%◌, ◌^◌, ◌<◌, ltb}
use mathlib.Core.List.{List, [], ◌∷◌, ◌++◌, map, flatten}
use Rattle.std.specs.Int.Bits.{bit_or}
use Rattle.std.specs.Int.Count.{ones}
use Rattle.array.specs.Bit.{bit}
use Rattle.array.specs.Index.{joined, all_in}
use Rattle.array.specs.Word.{bytes}
use Rattle.history_masks.specs.Histories.{lived, sequences, selected}

-- the histories of so many frames after those of the past
unfoldable pub histories_after : ℕ → ℕ → List ℕ → ℕ → List (List ℕ)
histories_after nodes period past k = selected (lived nodes period past) (sequences nodes k)

-- the masks, the newest first
unfoldable pub past_of : ℕ → ℕ → List ℕ
past_of zero x = []
past_of (suc d) x = x % 256 ∷ past_of d (x / 256)

-- the nodes of a mask and those that were bad in one of the last k frames
unfoldable pub bad_in : ℕ → ℕ → ℕ → ℕ
bad_in zero mask x = mask
bad_in (suc k) mask x = bad_in k (bit_or mask (x % 256)) (x / 256)

-- a number whose bit b says whether more than half of the nodes are not among those of mask b
pub record Most (nodes most : ℕ) : Type 0 where
  pub bits : (b : ℕ) → b < 2 ^ nodes → bit most b ≡ ltb (2 * ones b) nodes

-- a number that holds d masks of so many nodes
pub record HoldsMasks (nodes d x : ℕ) : Type 0 where
  pub fits : x < 256 ^ d
  pub each : all_in (λ m. ltb m (2 ^ nodes)) (past_of d x) ≡ true

-- the bytes of the histories that go on from these masks for k frames
unfoldable pub bytes_after : ℕ → ℕ → ℕ → ℕ → ℕ → List ℕ
bytes_after nodes period d x k = flatten (map (λ (later : List ℕ). bytes d x ++ later) (histories_after nodes period (past_of d x) k))

-- those with one frame more, which has one of the first masks: `bad` are the nodes that were bad in the last R frames
unfoldable pub last_bytes : ℕ → ℕ → ℕ → ℕ → ℕ → List ℕ
last_bytes most bad x frames masks = joined (λ mask. cond (bit most (bit_or bad mask)) (bytes frames (x * 256 + mask)) []) masks
