-- Laws of values stored in a column: its places, and who takes one.
use mathlib.Core.Path.{◌≡◌}
use mathlib.Core.Bool.{Bool, true}
use mathlib.Core.List.{List}
use Prim.Native.Nat.{ℕ, suc}
use native.Mathlib.Omega.{arith}
use Rattle.array.proofs.TestLaws.{split}
use Rattle.rows.specs.Code.{word_place}
use Rattle.row_word.specs.Code.{is_good}
use Rattle.row_vote.specs.Code.{voted_at, takes}

-- no two have one place
pub column_apart : (c i j : ℕ) → word_place (suc i) c ≡ word_place (suc j) c → i ≡ j
column_apart c i j e = omega arith

-- where a cell is voted in one frame, every good node votes on it
pub takes_one : (votes : List Bool) (mask one c j : ℕ) → voted_at votes one c ≡ true → is_good mask j ≡ takes votes mask (λ k. one) c j
takes_one votes mask one c j v = rw v (split (is_good mask j) (λ t. rw t) (λ t. rw t))
