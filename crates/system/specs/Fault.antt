-- Document 01, 'Faults': "for each node its memory after the frame (laid out as a message with all cells), its n messages by receiver, its A
-- setpoints (8 bytes each); in all n × ((n + 1) × (2 + 8C) + 8A). Only bad nodes' bytes matter."
use Rattle.std.specs.Prelude.{Bool, List, ℕ, ◌+◌, ◌*◌, Option, Some}
use Rattle.array.specs.Index.{fill, from}
use Rattle.array.specs.Word.{be}
use Rattle.array.specs.Bit.{bit}
use Rattle.plan.specs.declared.Sizes.{Sizes}
use Rattle.memory.specs.declared.Memory.{Memory}
use Rattle.memory.specs.Size.{counter_size, pattern_size, cell_at, bin_bytes}

-- "a mask (bit i set: node i is bad in this frame)"
abbrev pub bad : ℕ → ℕ → Bool
bad mask i = bit mask i

-- ---- the layout, by the numbers of a plan

-- a node's part: its memory, its messages, its setpoints
abbrev pub memory_size : Sizes → ℕ
memory_size s = cell_at s.cells

abbrev pub messages_size : Sizes → ℕ
messages_size s = s.nodes * bin_bytes s.cells

abbrev pub setpoint_size : ℕ
setpoint_size = pattern_size

abbrev pub fault_size : Sizes → ℕ
fault_size s = memory_size s + messages_size s + setpoint_size * s.actuators

abbrev pub faults_size : Sizes → ℕ
faults_size s = s.nodes * fault_size s

-- where they stand
abbrev pub fault_at : Sizes → ℕ → ℕ
fault_at s i = i * fault_size s

abbrev pub fault_message_at : Sizes → ℕ → ℕ → ℕ
fault_message_at s sender receiver = fault_at s sender + memory_size s + receiver * bin_bytes s.cells

abbrev pub fault_setpoint_at : Sizes → ℕ → ℕ → ℕ
fault_setpoint_at s i a = fault_at s i + memory_size s + messages_size s + setpoint_size * a

-- ---- what they say

-- the memory that a fault leaves node i; what it held past C stays
unfoldable pub fault_memory : Sizes → List ℕ → ℕ → Memory → Memory
fault_memory s faults i m =
    record {
      counter = be counter_size faults (fault_at s i);
      cells = fill (λ c. be pattern_size faults (fault_at s i + cell_at c)) s.cells m.cells;
    }

-- what bad node `sender` leaves in a bin of `receiver`
unfoldable pub fault_message : Sizes → List ℕ → ℕ → ℕ → List ℕ
fault_message s faults sender receiver = from 0 faults (fault_message_at s sender receiver) (bin_bytes s.cells)

-- what bad node i puts out for actuator a
unfoldable pub fault_setpoint : Sizes → List ℕ → ℕ → ℕ → Option ℕ
fault_setpoint s faults i a = Some (be pattern_size faults (fault_setpoint_at s i a))
