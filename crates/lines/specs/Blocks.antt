-- A run read in blocks, as the program reads it: each block prints the listing of its bytes from the run that the one before it left, until a line is
-- refused. Together they print the listing of the joined bytes (proofs/BlockLaws).
use Rattle.std.specs.Prelude.{◌≡◌, cond, List, [], ◌∷◌, ◌++◌, ℕ, ◌*◌, ◌≤◌, length, take, is_none}
use Rattle.run_line.specs.Listing.{run_listing}
use Rattle.lines.specs.declared.Run.{Run}
use Rattle.lines.specs.Code.{lines_answer}

unfoldable pub joined_blocks : List (List ℕ) → List ℕ
joined_blocks [] = []
joined_blocks (block ∷ blocks) = block ++ joined_blocks blocks

-- each is of whole lines of this size, but perhaps the last
pub data WholeBlocks (size : ℕ) : List (List ℕ) → Type 0 where
  nothing : WholeBlocks size []
  last : (block : List ℕ) → WholeBlocks size (block ∷ [])
  next : (k : ℕ) (block : List ℕ) {blocks : List (List ℕ)} → length block ≡ k * size → WholeBlocks size blocks → WholeBlocks size (block ∷ blocks)

abbrev pub block_listing : Run → List ℕ → List ℕ
block_listing r block = run_listing r.plan r.system r.single r.frame block

unfoldable pub blocks_listing : Run → List (List ℕ) → List ℕ
blocks_listing r [] = []
blocks_listing r (block ∷ blocks) =
    block_listing r block ++ cond (is_none (lines_answer r block).refused) (blocks_listing (lines_answer r block).run blocks) []

-- a block is printed from the front of a buffer, and leaves the run
pub record LaidBlock (r : Run) (block out : List ℕ) (count : ℕ) (left : Run) : Type 0 where
  pub fits : count ≤ length out
  pub front : take count out ≡ block_listing r block
  pub run_is : left ≡ (lines_answer r block).run
