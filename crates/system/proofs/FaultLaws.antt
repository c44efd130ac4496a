-- Laws of the fault bytes: whatever they say, a bad node's memory keeps its length and what it held past C, and its messages have a bin's size.
-- Every part of them lies in its node's part.
use mathlib.Core.Path.{◌≡◌}
use mathlib.Core.List.{List}
use Prim.Native.Nat.{ℕ, ◌+◌, ◌*◌, ◌≤◌, ◌<◌}
use native.Mathlib.Nat.{le_refl}
use native.Mathlib.Omega.{arith}
use lib.Dec.{ltb, lit<}
use lib.ListN.{length, get_or, get_or-eq_default}
use borrow.Author.Tests.{ltb-true, ltb-false}
use Rattle.array.specs.Index.{fill}
use Rattle.array.specs.Word.{be}
use Rattle.array.proofs.TestLaws.{split}
use Rattle.array.proofs.PlacesLaws.{fill-length, fill-in, fill-out, from-length}
use Rattle.array.proofs.WordLaws.{be-bound}
use Rattle.plan.specs.declared.Sizes.{Sizes}
use Rattle.memory.specs.declared.Memory.{Memory}
use Rattle.memory.specs.Size.{pattern_size, cell_at, bin_bytes}
use Rattle.task.proofs.TaskLaws.{Bounded}
use Rattle.memory.proofs.StepLaws.{bin-ends}
use Rattle.system.specs.Fault.{setpoint_size, fault_size, fault_at, fault_message_at, fault_setpoint_at, fault_memory, fault_message}

module _ (s : Sizes) (faults : List ℕ) (i : ℕ) where
  pub fault_memory-length : (m : Memory) → length (fault_memory s faults i m).cells ≡ length m.cells
  unfolding fault_memory
  fault_memory-length m = fill-length _ s.cells m.cells

  pub fault_memory-past : (m : Memory) (c : ℕ) → s.cells ≤ c → get_or (fault_memory s faults i m).cells c 0 ≡ get_or m.cells c 0
  unfolding fault_memory
  fault_memory-past m c l = fill-out _ s.cells m.cells c 0 l

  abbrev word : ℕ → ℕ
  word c = be pattern_size faults (fault_at s i + cell_at c)

  -- of bytes it has words
  pub fault_memory-bounded : (m : Memory) → ((k : ℕ) → get_or faults k 0 < 256) → Bounded m.cells → Bounded (fault_memory s faults i m).cells
  unfolding fault_memory
  fault_memory-bounded m b h c =
      split (ltb c s.cells)
      (λ t.
      split (ltb c (length m.cells))
      (λ u. rw (fill-in word s.cells m.cells c 0 (ltb-true _ _ t) (ltb-true _ _ u)) (be-bound pattern_size faults (fault_at s i + cell_at c) b))
      (λ u.
      let past : length (fill word s.cells m.cells) ≤ c = omega (arith, fill-length word s.cells m.cells, ltb-false c (length m.cells) u) in
      rw (get_or-eq_default (fill word s.cells m.cells) 0 {n = c} past) (lit< tt)))
      (λ t. rw (fill-out word s.cells m.cells c 0 (ltb-false _ _ t)) (h c))

  pub fault_message-length : (receiver : ℕ) → length (fault_message s faults i receiver) ≡ bin_bytes s.cells
  unfolding fault_message
  fault_message-length receiver = from-length 0 faults (fault_message_at s i receiver) (bin_bytes s.cells)

-- ---- rooms

-- the part of node i, of n
pub part_room : (s : Sizes) (i n : ℕ) → i < n → fault_at s i + fault_size s ≤ n * fault_size s
part_room s i n l = bin-ends i (fault_size s) l (le_refl _)

-- in the part of node j: its message to node i, its setpoint for actuator a
module _ (s : Sizes) (j : ℕ) where
  pub message-room : (i : ℕ) → i < s.nodes → fault_message_at s j i + bin_bytes s.cells ≤ fault_at s j + fault_size s
  message-room i l = omega (arith, bin-ends i (bin_bytes s.cells) l (le_refl (s.nodes * bin_bytes s.cells)))

  pub setpoint-room : (a : ℕ) → a < s.actuators → fault_setpoint_at s j a + setpoint_size ≤ fault_at s j + fault_size s
  setpoint-room a l = omega arith
