-- Cards and words undo each other: a card is read back from its words and bytes, and words whose counter is below 2^16 and whose phase, flags and mask are below 2^8 are those of the card that they are read to.
use mathlib.Core.Path.{◌≡◌, sym, ◌∙◌}
use mathlib.Core.List.{List}
use Prim.Native.Nat.{ℕ, ◌+◌, ◌^◌, ◌<◌}
use native.Mathlib.Omega.{arith}
use native.Mathlib.Nat.{mod-eq_of_lt}
use lib.Dec.{eqb, ltb}
use lib.ListN.{length, get_or, set, length-set}
use lib.Seq.{ext_get_or, get_or-set_same, get_or-set_other}
use borrow.Author.Tests.{eqb-true, eqb-false, ltb-true, ltb-false}
use Rattle.array.specs.Index.{from}
use Rattle.array.proofs.TestLaws.{split}
use Rattle.array.proofs.PlacesLaws.{from-length, from_at}
use Rattle.system_words.specs.Words.{memory_count, with_memory}
use Rattle.system_words.proofs.RecordLaws.{stored-length}
use Rattle.system_words.proofs.HeldLaws.{Fits, HeldAt, memory-read, memory-low, memory-held}
use Rattle.card.specs.declared.Card.{Card}
use Rattle.card.specs.Card.{most_bins}
use Rattle.card_words.specs.Words.{phase_at, flags_at, mask_word_at, card_count, byte_of, card_of_words, with_card}
use Rattle.card_words.proofs.WordsLaws.{card-made}

-- one that a host can have: a phase, flags and a mask of 8 bits, all bytes of the bins
pub record Shaped (k : Card) : Type 0 where
  pub memory : Fits k.memory
  pub phase : k.phase < 2 ^ 8
  pub flags : k.flags < 2 ^ 8
  pub mask : k.mask < 2 ^ 8
  pub bins : length k.bins ≡ most_bins

-- all bytes of the bins, read
bytes_read : (bytes : List ℕ) → length bytes ≡ most_bins → from 0 bytes 0 most_bins ≡ bytes
bytes_read bytes e =
    let long : length (from 0 bytes 0 most_bins) ≡ most_bins = from-length 0 bytes 0 most_bins in
    ext_get_or 0 (from 0 bytes 0 most_bins) bytes (long ∙ sym e)
    (λ i h.
    let l : i < most_bins = rw long at h in
    let z : 0 + i ≡ i = omega arith in
    rw z at (from_at 0 bytes 0 most_bins i l))

pub bins-back : (ws bytes : List ℕ) → length bytes ≡ most_bins → (card_of_words ws bytes).bins ≡ bytes
unfolding card_of_words
bins-back ws bytes e = bytes_read bytes e

-- ---- a card's words, stored

module _ (k : Card) (ws : List ℕ) (long : length ws ≡ card_count) where
  abbrev begun : List ℕ
  begun = with_memory k.memory 0 ws

  abbrev phased : List ℕ
  phased = set begun phase_at k.phase

  abbrev flagged : List ℕ
  flagged = set phased flags_at k.flags

  begun-length : length begun ≡ card_count
  unfolding with_memory
  begun-length = stored-length _ 0 ws memory_count ∙ long

  phased-length : length phased ≡ card_count
  phased-length = length-set begun phase_at k.phase ∙ begun-length

  flagged-length : length flagged ≡ card_count
  flagged-length = length-set phased flags_at k.flags ∙ phased-length

  card-length : length (with_card k ws) ≡ card_count
  unfolding with_card
  card-length = length-set flagged mask_word_at k.mask ∙ flagged-length

  memory-in : HeldAt (with_card k ws) 0 k.memory
  unfolding with_card
  memory-in i h =
      get_or-set_other flagged mask_word_at (0 + i) k.mask 0 (λ e. omega arith)
      ∙ get_or-set_other phased flags_at (0 + i) k.flags 0 (λ e. omega arith)
      ∙ get_or-set_other begun phase_at (0 + i) k.phase 0 (λ e. omega arith)
      ∙ memory-held ws 0 k.memory (omega arith) i h

  phase-in : get_or (with_card k ws) phase_at 0 ≡ k.phase
  unfolding with_card
  phase-in =
      get_or-set_other flagged mask_word_at phase_at k.mask 0 (λ e. omega arith)
      ∙ get_or-set_other phased flags_at phase_at k.flags 0 (λ e. omega arith)
      ∙ get_or-set_same begun phase_at k.phase 0 (omega (arith, begun-length))

  flags-in : get_or (with_card k ws) flags_at 0 ≡ k.flags
  unfolding with_card
  flags-in =
      get_or-set_other flagged mask_word_at flags_at k.mask 0 (λ e. omega arith)
      ∙ get_or-set_same phased flags_at k.flags 0 (omega (arith, phased-length))

  mask-in : get_or (with_card k ws) mask_word_at 0 ≡ k.mask
  unfolding with_card
  mask-in = get_or-set_same flagged mask_word_at k.mask 0 (omega (arith, flagged-length))

  -- card to words to card
  pub card-back : Shaped k → card_of_words (with_card k ws) k.bins ≡ k
  unfolding byte_of
  card-back shaped =
      sym (card-made (with_card k ws) k.bins
      (sym (memory-read (with_card k ws) 0 k.memory shaped.memory memory-in))
      (sym (rw phase-in (mod-eq_of_lt shaped.phase)))
      (sym (rw flags-in (mod-eq_of_lt shaped.flags)))
      (sym (rw mask-in (mod-eq_of_lt shaped.mask)))
      (sym (bytes_read k.bins shaped.bins)))

-- words whose counter is below 2^16, and whose phase, flags and mask are below 2^8
pub record Low (ws : List ℕ) : Type 0 where
  pub long : length ws ≡ card_count
  pub counter : get_or ws 0 0 < 2 ^ 16
  pub phase : get_or ws phase_at 0 < 2 ^ 8
  pub flags : get_or ws flags_at 0 < 2 ^ 8
  pub mask : get_or ws mask_word_at 0 < 2 ^ 8

-- words to card to words
pub card-words-back : {ws : List ℕ} → Low ws → (bytes : List ℕ) → with_card (card_of_words ws bytes) ws ≡ ws
unfolding card_of_words byte_of
card-words-back {ws} low bytes =
    let k = card_of_words ws bytes in
    ext_get_or 0 (with_card k ws) ws (card-length k ws low.long ∙ sym low.long)
    (λ i h.
    split (ltb i memory_count)
    (λ t.
    let l : i < memory_count = ltb-true i memory_count t in
    let z : 0 + i ≡ i = omega arith in
    rw z at (memory-in k ws low.long i l ∙ sym (memory-low ws 0 low.counter i l)))
    (λ t. split (eqb i phase_at)
    (λ u. rw (eqb-true i phase_at u) (phase-in k ws low.long ∙ mod-eq_of_lt low.phase))
    (λ u. split (eqb i flags_at)
    (λ v. rw (eqb-true i flags_at v) (flags-in k ws low.long ∙ mod-eq_of_lt low.flags))
    (λ v.
    let e : i ≡ mask_word_at = omega (arith, card-length k ws low.long, ltb-false i memory_count t, eqb-false i phase_at u, eqb-false i flags_at v) in
    rw e (mask-in k ws low.long ∙ mod-eq_of_lt low.mask)))))
