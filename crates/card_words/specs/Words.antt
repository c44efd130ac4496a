-- A card as 64-bit words and bytes, for callers that hand over nothing else. This layout is ours: the words of its memory, then phase, flags and mask; the bytes are its bins.
-- Any words and bytes are some card.
use Rattle.std.specs.Prelude.{List, ℕ, ◌+◌, ◌%◌, ◌^◌, get_or, set, Result}
use Rattle.array.specs.Index.{from}
use Rattle.answer.specs.declared.Refusal.{Refusal}
use Rattle.system_words.specs.Words.{if_done, memory_count, memory_at, with_memory}
use Rattle.card.specs.declared.Card.{Card}
use Rattle.card.specs.Card.{most_bins}

abbrev pub phase_at : ℕ
phase_at = memory_count

abbrev pub flags_at : ℕ
flags_at = memory_count + 1

abbrev pub mask_word_at : ℕ
mask_word_at = memory_count + 2

abbrev pub card_count : ℕ
card_count = memory_count + 3

-- a phase, flags and a mask count by the low 8 bits of their words
unfoldable pub byte_of : List ℕ → ℕ → ℕ
byte_of ws at = get_or ws at 0 % 2 ^ 8

unfoldable pub card_of_words : List ℕ → List ℕ → Card
card_of_words ws bytes =
    record {
      memory = memory_at ws 0;
      phase = byte_of ws phase_at;
      flags = byte_of ws flags_at;
      mask = byte_of ws mask_word_at;
      bins = from 0 bytes 0 most_bins;
    }

unfoldable pub with_card : Card → List ℕ → List ℕ
with_card k ws = set (set (set (with_memory k.memory 0 ws) phase_at k.phase) flags_at k.flags) mask_word_at k.mask

-- a card's words and bytes after a call that gives this, and this card
unfoldable pub card_given : {A : Type 0} → Result A Refusal → Card → List ℕ → List ℕ
card_given given k ws = if_done given (with_card k ws) ws

unfoldable pub bins_given : {A : Type 0} → Result A Refusal → Card → List ℕ → List ℕ
bins_given given k bytes = if_done given k.bins bytes
