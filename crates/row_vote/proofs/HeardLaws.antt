-- Laws of what is heard of a cell: what more than half sent as good nodes is what every good node votes, and with no bad node all hear the same.
use Rattle.std.specs.Prelude.{Option, None, Some, unwrap_or}
use mathlib.Core.Path.{◌≡◌, sym, ap, ◌∙◌}
use mathlib.Core.Bool.{Bool, not, cond, ◌&&◌}
use mathlib.Core.List.{List}
use Prim.Native.Nat.{ℕ, suc, ◌+◌}
use native.Mathlib.Numerals.{add-one}
use lib.ListN.{get_or}
use Rattle.array.specs.Bit.{bit}
use Rattle.plan.specs.declared.Sizes.{Sizes}
use Rattle.ballot.specs.Majority.{majority}
use Rattle.ballot.specs.Code.{packed, Packs, Told}
use Rattle.ballot.proofs.PackedLaws.{packs-majority}
use Rattle.rows.specs.Code.{word_place}
use Rattle.row_word.specs.Code.{fault_word, good_only, heard_word}
use Rattle.row_word.proofs.HeardLaws.{told-word, heard-same, heard-decided, heard-alone}
use Rattle.row_vote.specs.Code.{voted_at, sent_word, takes, word_after}

module _ (s : Sizes) (mask : ℕ) (faults : List ℕ) (i : ℕ) where
  module _ (votes : List Bool) (sent : ℕ → ℕ) (cells : List ℕ) (c : ℕ) where
    abbrev word : ℕ → ℕ
    word = sent_word votes sent cells c

    abbrev old : ℕ
    old = get_or cells (word_place (suc i) c) 0

    pub word-decided : (x : ℕ) → majority (good_only mask word) s.nodes ≡ Some x → word_after votes s mask faults sent cells c i ≡ x
    unfolding word_after
    word-decided x e =
        ap (λ (o : Option ℕ). unwrap_or o old) (heard-decided mask s.nodes (fault_word s mask faults (suc c) i) word x e)

    pub word-alone : majority (good_only mask word) s.nodes ≡ None → mask ≡ 0 → word_after votes s mask faults sent cells c i ≡ old
    unfolding word_after
    word-alone e z =
        ap (λ (o : Option ℕ). unwrap_or o old) (heard-alone mask s.nodes (fault_word s mask faults (suc c) i) word z ∙ e)

    pub word_read :
        (words : List ℕ) → Told (λ j. Some (word j)) s.nodes words →
        unwrap_or (majority (heard_word s mask faults (λ j. get_or words j 0) (suc c) i) s.nodes) old ≡ word_after votes s mask faults sent cells c i
    unfolding word_after
    word_read words t =
        ap (λ (o : Option ℕ). unwrap_or o old)
        (sym (heard-same mask s.nodes word (λ j. get_or words j 0) (told-word word s.nodes words t) (fault_word s mask faults (suc c) i)))

-- what the code reads of a cell is what its node sends
pub sent-read :
    (votes : List Bool) (sent : ℕ → ℕ) (cells : List ℕ) (c j : ℕ) {b : Bool} {at x : ℕ} →
    b ≡ voted_at votes (sent j) c →
    at ≡ word_place (j + 1) c →
    x ≡ cond b (get_or cells at 0) 0 →
    sent_word votes sent cells c j ≡ x
sent-read votes sent cells c j e a h = sym (h ∙ rw (e, a, add-one j))

-- what a receiver takes of words that it counted, where its own is as it was
pub counted-old :
    (bin : ℕ → Option ℕ) (n : ℕ) {values : List ℕ} {k now old r : ℕ} {voted : Option ℕ} →
    Packs bin n values k → voted ≡ majority (packed values k) n → now ≡ old → r ≡ unwrap_or voted now → r ≡ unwrap_or (majority bin n) old
counted-old bin n packs counted still e = rw (← packs-majority bin n packs, ← counted, ← still) e

-- whether a node votes on a cell, by the tests that the code makes
pub takes-if :
    (votes : List Bool) (mask : ℕ) (frame : ℕ → ℕ) (c i : ℕ) {b v t : Bool} →
    b ≡ bit mask i → v ≡ voted_at votes (frame i) c → (not b && v) ≡ t → takes votes mask frame c i ≡ t
takes-if votes mask frame c i e f h = rw (← e, ← f) h
