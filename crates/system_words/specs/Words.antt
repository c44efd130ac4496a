-- Refusals, memories and system records as 64-bit words, for callers that hand over nothing else. This layout is ours; document 01 has none. Any words are some memory, and some record.
use Rattle.std.specs.Prelude.{List, ◌∷◌, ℕ, zero, suc, ◌+◌, ◌*◌, ◌%◌, ◌^◌, min, get_or, set, Option, None, Some, Result, Ok, Err}
use Rattle.std.specs.Result.{result_err}
use Rattle.array.specs.Index.{fill, from}
use Rattle.answer.specs.declared.Refusal.{Refusal}
use Rattle.answer.specs.Refusal.{number_of, line_of}
use Rattle.plan.specs.Limits.{most_nodes, most_cells, most_actuators}
use Rattle.memory.specs.declared.Memory.{Memory}
use Rattle.system.specs.declared.System.{System}
use Rattle.system.specs.System.{zero_system}
use Rattle.system.specs.Frame.{memory_of, good_of, handed_of}

-- ---- what a call gives

-- number + 256 × line, in 64 bits; 0 where nothing is refused
unfoldable pub code_with : Option Refusal → ℕ
code_with None = 0
code_with (Some r) = number_of r + 256 * line_of r % 2 ^ 64

unfoldable pub code_of : {A : Type 0} → Result A Refusal → ℕ
code_of given = code_with (result_err given)

-- words after a call that gives this: beside a refusal every one stays
unfoldable pub if_done : {A : Type 0} → Result A Refusal → List ℕ → List ℕ → List ℕ
if_done (Ok x) new old = new
if_done (Err r) new old = old

-- ---- a memory: its counter, then its patterns

abbrev pub memory_count : ℕ
memory_count = 1 + most_cells

-- the memory whose words begin at a place: a counter's word counts by its low 16 bits
unfoldable pub memory_at : List ℕ → ℕ → Memory
memory_at ws at = record { counter = get_or ws at 0 % 2 ^ 16; cells = from 0 ws (at + 1) most_cells }

-- a list with f k stored at place at + k for each k below n
unfoldable pub stored_from : (ℕ → ℕ) → ℕ → ℕ → List ℕ → List ℕ
stored_from f at zero l = l
stored_from f at (suc k) l = set (stored_from f at k l) (at + k) (f k)

unfoldable pub memory_words : Memory → List ℕ
memory_words m = m.counter ∷ m.cells

-- words with those of a memory from a place on
unfoldable pub with_memory : Memory → ℕ → List ℕ → List ℕ
with_memory m at ws = stored_from (λ k. get_or (memory_words m) k 0) at memory_count ws

-- a memory's words after a call that gives this, and this memory
unfoldable pub memory_given : {A : Type 0} → Result A Refusal → Memory → List ℕ → List ℕ
memory_given given m ws = if_done given (with_memory m 0 ws) ws

-- ---- a system: the memories of its nodes, their good counts, then the values that the plane remembers

-- where node j's memory begins
abbrev pub node_at : ℕ → ℕ
node_at j = memory_count * j

abbrev pub good_at : ℕ
good_at = memory_count * most_nodes

abbrev pub handed_at : ℕ
handed_at = good_at + most_nodes

abbrev pub system_count : ℕ
system_count = handed_at + most_actuators

-- a good count above 65,535 reads as 65,535, which is above every recovery period
unfoldable pub good_in : List ℕ → ℕ → ℕ
good_in ws j = min (get_or ws (good_at + j) 0) 65535

unfoldable pub system_of_words : List ℕ → System
system_of_words ws =
    record {
      memories = fill (λ j. memory_at ws (node_at j)) most_nodes zero_system.memories;
      good = fill (good_in ws) most_nodes zero_system.good;
      seen = record { handed = from 0 ws handed_at most_actuators };
    }

-- words with those of the memories of the first n nodes
unfoldable pub with_memories : System → ℕ → List ℕ → List ℕ
with_memories sys zero ws = ws
with_memories sys (suc j) ws = with_memory (memory_of sys j) (node_at j) (with_memories sys j ws)

-- words with those of the first n nodes of a record and with all 8 remembered values (a frame leaves those past A as they were); all others stay
unfoldable pub with_system : ℕ → System → List ℕ → List ℕ
with_system n sys ws = stored_from (handed_of sys) handed_at most_actuators (stored_from (good_of sys) good_at n (with_memories sys n ws))

-- a system's words after a call on a plan of n nodes that gives this, and this record
unfoldable pub system_given : {A : Type 0} → Result A Refusal → ℕ → System → List ℕ → List ℕ
system_given given n sys ws = if_done given (with_system n sys ws) ws
