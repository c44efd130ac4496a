-- The code's own: a system in flat arrays, a row of words for each memory. No definition of document 01 cites these.
use Rattle.std.specs.Prelude.{◌≡◌, Bool, ◌&&◌, List, ℕ, suc, ◌+◌, ◌*◌, ◌≤◌, ◌<◌, eqb, length, get_or, take, drop}
use Rattle.array.specs.Index.{all_below}
use Rattle.plan.specs.Limits.{most_nodes, most_cells, most_actuators}
use Rattle.memory.specs.declared.Memory.{Memory}
use Rattle.system.specs.declared.Seen.{Seen}
use Rattle.system.specs.declared.System.{System}
use Rattle.system.specs.Frame.{memory_of}

-- ---- rows: row 0 is the single controller's, row j + 1 node j's

abbrev pub row_count : ℕ
row_count = most_nodes + 1

-- the words of all rows
abbrev pub word_count : ℕ
word_count = row_count * most_cells

-- where word c of row r stands
abbrev pub word_place : ℕ → ℕ → ℕ
word_place r c = most_cells * r + c

-- the cells of row r
unfoldable pub row_of : List ℕ → ℕ → List ℕ
row_of cells r = take most_cells (drop (most_cells * r) cells)

abbrev pub memory_in : List ℕ → List ℕ → ℕ → Memory
memory_in counters cells r = record { counter = get_or counters r 0; cells = row_of cells r }

-- what is seen, as words: the values last handed on
abbrev pub seen_words : Seen → List ℕ
seen_words seen = seen.handed

-- the rows from 1 on hold a system, and words beside them what is seen
pub record Rows (sys : System) (counters cells good seen : List ℕ) : Type 0 where
  pub node-is : (j : ℕ) → j < most_nodes → memory_in counters cells (suc j) ≡ memory_of sys j
  pub good-is : good ≡ sys.good
  pub seen-is : seen ≡ seen_words sys.seen
  pub count : length sys.memories ≡ most_nodes
  pub seen-count : length sys.seen.handed ≡ most_actuators

-- row r has become m, and the others are as they were
pub record Stored (counters cells : List ℕ) (r : ℕ) (m : Memory) (counters' cells' : List ℕ) : Type 0 where
  pub here : memory_in counters' cells' r ≡ m
  pub others : (q : ℕ) → (q ≡ r → ⊥) → memory_in counters' cells' q ≡ memory_in counters cells q

-- each of the first n rows has become what f makes of it, and the others are as they were
pub record Through (n : ℕ) (f : ℕ → Memory → Memory) (counters cells counters' cells' : List ℕ) : Type 0 where
  pub done : (q : ℕ) → q < n → memory_in counters' cells' q ≡ f q (memory_in counters cells q)
  pub left : (q : ℕ) → n ≤ q → memory_in counters' cells' q ≡ memory_in counters cells q

-- row q has the single controller's memory
unfoldable pub same_row : ℕ → List ℕ → List ℕ → ℕ → Bool
same_row width counters cells q =
    eqb (get_or counters q 0) (get_or counters 0 0) && all_below (λ c. eqb (get_or (row_of cells q) c 0) (get_or (row_of cells 0) c 0)) width
