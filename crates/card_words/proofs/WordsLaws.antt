-- Laws of a card as words and bytes: what the code reads and stores is what the definitions say; words and bytes that a card gives are read to this card.
use mathlib.Core.Path.{◌≡◌, sym, ◌∙◌}
use mathlib.Core.List.{List, []}
use Prim.Native.Nat.{ℕ, ◌%◌, ◌<◌}
use lib.ListN.{length, get_or, set, replicate, length-replicate, get_or-replicate}
use lib.Seq.{ext_get_or}
use Rattle.array.specs.Index.{from}
use Rattle.array.proofs.PlacesLaws.{from-length, from_at}
use Rattle.memory.specs.declared.Memory.{Memory}
use Rattle.system_words.specs.Words.{memory_at, with_memory}
use Rattle.card.specs.declared.Card.{Card}
use Rattle.card.specs.Card.{most_bins}
use Rattle.card_words.specs.Words.{phase_at, flags_at, mask_word_at, byte_of, card_of_words, with_card}

pub byte-is : (ws : List ℕ) (at : ℕ) {x : ℕ} → x ≡ get_or ws at 0 → x % 256 ≡ byte_of ws at
unfolding byte_of
byte-is ws at e = rw e

pub card-made :
    (ws bytes : List ℕ) {m : Memory} {phase flags mask : ℕ} {bins : List ℕ} →
    m ≡ memory_at ws 0 →
    phase ≡ byte_of ws phase_at →
    flags ≡ byte_of ws flags_at →
    mask ≡ byte_of ws mask_word_at →
    bins ≡ from 0 bytes 0 most_bins →
    ◌≡◌ {A = Card} (record { memory = m; phase = phase; flags = flags; mask = mask; bins = bins }) (card_of_words ws bytes)
unfolding card_of_words
card-made ws bytes a b c d e = λ i. record { memory = a i; phase = b i; flags = c i; mask = d i; bins = e i }

pub card-put :
    (k : Card) (ws : List ℕ) {u v w x : List ℕ} →
    u ≡ with_memory k.memory 0 ws →
    v ≡ set u phase_at k.phase →
    w ≡ set v flags_at k.flags →
    x ≡ set w mask_word_at k.mask →
    x ≡ with_card k ws
unfolding with_card
card-put k ws a b c d = d ∙ rw (c, b, a)

-- no bytes are a card's with bins of zeros
pub zeros-made : ◌≡◌ {A = List ℕ} (replicate most_bins 0) (from 0 [] 0 most_bins)
zeros-made =
    let long : length {A = ℕ} (replicate most_bins 0) ≡ most_bins = length-replicate {A = ℕ} most_bins 0 in
    ext_get_or 0 (replicate most_bins 0) (from 0 [] 0 most_bins) (long ∙ sym (from-length 0 [] 0 most_bins))
    (λ i h. let l : i < most_bins = rw long at h in get_or-replicate {A = ℕ} most_bins i 0 0 l ∙ sym (from_at 0 [] 0 most_bins i l))
