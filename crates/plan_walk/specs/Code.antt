-- The code's way to the recovery period (src/step.rt): its own state and what each of its steps does. No definition of document 01 cites these;
-- the laws of proofs/WalkedLaws.antt join them to `known` and `period`.
use Rattle.std.specs.Prelude.{◌≡◌, Bool, true, false, cond, ◌&&◌, List, [], ◌∷◌, ℕ, ◌+◌, ◌-◌, ◌^◌, ◌≤◌, ◌<◌, min, get_or, set, replicate, ltb}
use Rattle.std.specs.Int.Bits.{bit_and, bit_or}
use Rattle.array.specs.Index.{all_below, fill}
use Rattle.array.specs.Bit.{bit}
use Rattle.plan.specs.declared.Op.{Op}
use Rattle.plan.specs.declared.Task.{Task}
use Rattle.plan_walk.specs.declared.step.Walk.{Walk}
use Rattle.plan.specs.Limits.{most_cells}
use Rattle.plan.specs.Known.{reads}
use Rattle.plan.specs.Tables.{vote_place}

abbrev pub walk_start : Walk
walk_start = record { low = 0; longest = 0; time = 0; frame = 0 }

abbrev pub words_start : List ℕ
words_start = replicate most_cells 0

-- the first frames, of those begun, from which all cells of a list are known
unfoldable pub all_words : ℕ → List ℕ → List ℕ → ℕ
all_words begun ws [] = begun
all_words begun ws (c ∷ l) = bit_and (get_or ws c 0) (all_words begun ws l)

-- and from which all cells that a task reads are
unfoldable pub read_word : Op → ℕ → ℕ → List ℕ → ℕ
read_word o target begun ws = all_words begun ws (reads o target)

-- the words after a task
unfoldable pub after_task : ℕ → List ℕ → Task → List ℕ
after_task begun ws t = set ws t.target (read_word t.op t.target begun ws)

-- the words after the votes of a frame
unfoldable pub with_votes : List Bool → ℕ → ℕ → ℕ → List ℕ → List ℕ
with_votes voted frame cells begun ws =
    fill (λ c. bit_or (get_or ws c 0) (cond (get_or voted (vote_place frame c) false) begun 0)) cells ws

-- whether from first frame g all cells are known
unfoldable pub whole : List ℕ → ℕ → ℕ → Bool
whole ws cells g = all_below (λ c. bit (get_or ws c 0) g) cells

unfoldable pub longer : ℕ → ℕ → ℕ → ℕ → ℕ
longer longest low frames ran = cond (ltb low frames && ltb low ran && ltb longest (ran - low)) (ran - low) longest

-- r is the least number from low on, up to high, whose bit is not set
pub record Unset (w low high r : ℕ) : Type 0 where
  pub from : low ≤ r
  pub to : r ≤ high
  pub passed : (g : ℕ) → low ≤ g → g < r → bit w g ≡ true
  pub stopped : r < high → bit w r ≡ false

-- the votes of the frame are in, and it is run: from words ws and walk w to vs and r
pub record Closed (voted : List Bool) (frames cells : ℕ) (ws : List ℕ) (w : Walk) (vs : List ℕ) (r : Walk) : Type 0 where
  pub words : vs ≡ with_votes voted w.frame cells (2 ^ min (w.time + 1) frames - 1) ws
  pub from : w.low ≤ r.low
  pub to : r.low ≤ frames
  pub passed : (g : ℕ) → w.low ≤ g → g < r.low → whole vs cells g ≡ true
  pub stopped : r.low < frames → whole vs cells r.low ≡ false
  pub longest : r.longest ≡ longer w.longest r.low frames (w.time + 1)
  pub time : r.time ≡ w.time + 1
  pub next : w.frame + 1 < frames → r.frame ≡ w.frame + 1
  pub wrap : frames ≤ w.frame + 1 → r.frame ≡ 0
