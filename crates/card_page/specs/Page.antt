-- Request 2026-07: "The new card shows a 16-byte page." What a card is but for its bins, what it shows of that, and what a host may write.
use Rattle.std.specs.Prelude.{Bool, not, cond, ◌&&◌, ◌||◌, List, ◌∷◌, ◌++◌, ℕ, ◌+◌, ◌%◌, eqb, get_or, replicate}
use Rattle.array.specs.Bit.{bit}
use Rattle.array.specs.Word.{bytes}
use Rattle.memory.specs.Size.{counter_size}
use Rattle.card_page.specs.declared.CardState.{CardState}
use Rattle.card_page.specs.declared.Phase.{Phase}
use Rattle.card_page.specs.declared.Phase.TheVariants.{Compute, Broadcast, Vote, Sync}

abbrev pub page_size : ℕ
page_size = 16

-- the bytes that a host may write: the interrupt mask, and the one that clears flags
abbrev pub mask_at : ℕ
mask_at = 4

abbrev pub clear_at : ℕ
clear_at = 5

-- ---- "A phase handed in counts modulo 4, a mask or flag bit not named here as 0."

-- the byte with these bits 0 and 1, its other bits 0
unfoldable pub two_bits : Bool → Bool → ℕ
two_bits b0 b1 = cond b0 1 0 + cond b1 2 0

unfoldable pub named_bits : ℕ → ℕ
named_bits b = two_bits (bit b 0) (bit b 1)

-- "Byte 2 is the phase (0 compute, 1 broadcast, 2 vote, 3 sync)."
abbrev pub phase_number : Phase → ℕ
phase_number Compute = 0
phase_number Broadcast = 1
phase_number Vote = 2
phase_number Sync = 3

module _ (s : CardState) where
  -- "A phase handed in counts modulo 4"
  unfoldable pub phase_of : ℕ
  phase_of = s.phase % 4

  -- "bit 0 frame timer due, bit 1 bins full"
  unfoldable pub timer_due : Bool
  timer_due = bit s.flags 0

  unfoldable pub bins_full : Bool
  bins_full = bit s.flags 1

  -- "bit 2 is 1 while a masked-in flag is, else 0": made of the others, and not kept
  unfoldable pub interrupt : Bool
  interrupt = timer_due && bit s.mask 0 || bins_full && bit s.mask 1

  unfoldable pub flag_byte : ℕ
  flag_byte = two_bits timer_due bins_full + cond interrupt 4 0

  -- "Bytes 0–1 hold the counter, big-endian. Byte 2 is the phase .. Byte 3 has flag bits .. Byte 4 is the interrupt mask .. Bytes 5–15 read as 0."
  unfoldable pub page : List ℕ
  page = bytes counter_size s.memory.counter ++ (phase_of ∷ flag_byte ∷ named_bits s.mask ∷ replicate 11 0)

  unfoldable pub page_byte : ℕ → ℕ
  page_byte at = get_or page at 0

  -- the card as it counts, with these flags
  unfoldable pub with_flags : Bool → Bool → CardState
  with_flags due full = record { memory = s.memory; phase = phase_of; flags = two_bits due full; mask = named_bits s.mask }

  unfoldable pub as_counts : CardState
  as_counts = with_flags timer_due bins_full

  -- "Byte 4 is the interrupt mask for bits 0 and 1, its other bits always 0"
  unfoldable pub with_mask : ℕ → CardState
  with_mask value = record { memory = s.memory; phase = phase_of; flags = two_bits timer_due bins_full; mask = named_bits value }

  -- "Byte 5 is written with ones to clear bits 0 and 1."
  unfoldable pub with_cleared : ℕ → CardState
  with_cleared value = with_flags (timer_due && not (bit value 0)) (bins_full && not (bit value 1))

  -- of the two places that may be written: every other is refused (card_step/Calls)
  unfoldable pub written_at : ℕ → ℕ → CardState
  written_at at value = cond (eqb at mask_at) (with_mask value) (with_cleared value)
