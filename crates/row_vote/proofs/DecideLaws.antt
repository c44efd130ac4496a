-- Laws of what is decided once, for a cell: each way through the code leaves what each good node would have counted.
use Rattle.std.specs.Prelude.{Option, None, Some, unwrap_or}
use mathlib.Core.Path.{◌≡◌, refl, sym, ap, ◌∙◌}
use mathlib.Core.Bool.{Bool, true}
use mathlib.Core.List.{List}
use Prim.Native.Nat.{ℕ, suc, ◌<◌}
use lib.ListN.{get_or}
use Rattle.array.specs.Index.{lesser, least}
use Rattle.array.proofs.TestLaws.{split}
use Rattle.array.proofs.LeastLaws.{least-same}
use Rattle.plan.specs.declared.Sizes.{Sizes}
use Rattle.ballot.specs.Majority.{holders, majority, agreement}
use Rattle.ballot.specs.Code.{Told}
use Rattle.rows.specs.Code.{word_place}
use Rattle.row_counter.specs.Code.{Put}
use Rattle.row_word.specs.Code.{fault_word, is_good, good_only, heard_word}
use Rattle.row_counter.proofs.PutLaws.{put-idle, put_same}
use Rattle.row_word.proofs.HeardLaws.{told-word, decided-of}
use Rattle.row_word.proofs.AgreementLaws.{least-of-each, least-of-none, least-of-decided}
use Rattle.row_vote.specs.Code.{voted_at, sent_word, takes, word_after, word_agreement}
use Rattle.row_vote.proofs.HeardLaws.{word-decided, word-alone, word_read}

-- what each node counts of words that were read is what it counts of what was sent
pub cell-counted :
    (votes : List Bool) (s : Sizes) (mask : ℕ) (faults : List ℕ) (sent : ℕ → ℕ) (cells : List ℕ) (c : ℕ) (words : List ℕ) →
    Told (λ j. Some (sent_word votes sent cells c j)) s.nodes words →
    (frame : ℕ → ℕ) {cells' : List ℕ} →
    Put (λ i. word_place (suc i) c) (takes votes mask frame c) (λ i. unwrap_or (majority (heard_word s mask faults (λ j. get_or words j 0) (suc c) i) s.nodes) (get_or cells (word_place (suc i) c) 0)) s.nodes cells cells' →
    Put (λ i. word_place (suc i) c) (takes votes mask frame c) (word_after votes s mask faults sent cells c) s.nodes cells cells'
cell-counted votes s mask faults sent cells c words told frame {cells'} p =
    put_same (λ i. word_place (suc i) c) (takes votes mask frame c) (takes votes mask frame c) _ (word_after votes s mask faults sent cells c) s.nodes cells cells' (λ j l. refl)
    (λ j l t. word_read s mask faults j votes sent cells c words told) p

-- and so is its agreement
pub cell-least :
    (votes : List Bool) (s : Sizes) (mask : ℕ) (faults : List ℕ) (sent : ℕ → ℕ) (cells : List ℕ) (c : ℕ) (words : List ℕ) →
    Told (λ j. Some (sent_word votes sent cells c j)) s.nodes words →
    (frame : ℕ → ℕ) (low : ℕ) {a : ℕ} →
    a ≡ lesser low (least (takes votes mask frame c) (λ i. agreement (heard_word s mask faults (λ j. get_or words j 0) (suc c) i) s.nodes) s.nodes) →
    a ≡ lesser low (least (takes votes mask frame c) (word_agreement votes s mask faults sent cells c) s.nodes)
unfolding word_agreement
cell-least votes s mask faults sent cells c words told frame low h =
    least-of-each mask s.nodes low (fault_word s mask faults (suc c)) (sent_word votes sent cells c) (λ j. get_or words j 0)
    (told-word (sent_word votes sent cells c) s.nodes words told) (takes votes mask frame c) h

module _
    (votes : List Bool) (s : Sizes) (mask : ℕ) (faults : List ℕ) (sent : ℕ → ℕ) (cells : List ℕ) (c : ℕ) (words : List ℕ)
    (told : Told (λ j. Some (sent_word votes sent cells c j)) s.nodes words) {o : Option ℕ} (d : o ≡ majority (good_only mask (λ j. get_or words j 0)) s.nodes)
    (low : ℕ)
  where
    abbrev place : ℕ → ℕ
    place i = word_place (suc i) c

    abbrev word : ℕ → ℕ
    word = sent_word votes sent cells c

    -- what `vote_cell` gives, and leaves
    abbrev Voted : ℕ → List ℕ → Type 0
    Voted a cells' =
        Put place (is_good mask) (word_after votes s mask faults sent cells c) s.nodes cells cells'
        × (a ≡ lesser low (least (is_good mask) (word_agreement votes s mask faults sent cells c) s.nodes))

    told_of : majority (good_only mask word) s.nodes ≡ o
    told_of = decided-of mask s.nodes word words told d

    -- what is said of the cell to receiver i
    abbrev fault-of : ℕ → ℕ → Option ℕ
    fault-of = fault_word s mask faults (suc c)

    abbrev read_of : (j : ℕ) → j < s.nodes → word j ≡ get_or words j 0
    read_of = told-word word s.nodes words told

    pub cell-each :
        (frame : ℕ → ℕ) {a : ℕ} {cells' : List ℕ} → ((i : ℕ) → i < s.nodes → voted_at votes (frame i) c ≡ true) →
        Put place (takes votes mask frame c) (λ i. unwrap_or (majority (heard_word s mask faults (λ j. get_or words j 0) (suc c) i) s.nodes) (get_or cells (place i) 0)) s.nodes cells cells' →
        a ≡ lesser low (least (takes votes mask frame c) (λ i. agreement (heard_word s mask faults (λ j. get_or words j 0) (suc c) i) s.nodes) s.nodes) →
        Voted a cells'
    unfolding word_agreement
    cell-each frame {a} {cells'} f p h = (
      put_same place (takes votes mask frame c) (is_good mask) (word_after votes s mask faults sent cells c) (word_after votes s mask faults sent cells c) s.nodes cells cells'
          (λ j l. takes_all j (f j l)) (λ j l t. refl) (cell-counted votes s mask faults sent cells c words told frame p),
      cell-least votes s mask faults sent cells c words told frame low h
          ∙ ap (lesser low) (least-same (takes votes mask frame c) (is_good mask) _ _ s.nodes (λ j l. takes_all j (f j l)) (λ j l t. refl)),
    )
      where
        takes_all : (j : ℕ) → voted_at votes (frame j) c ≡ true → takes votes mask frame c j ≡ is_good mask j
        takes_all j v = split (is_good mask j) (λ t. rw (t, v)) (λ t. rw t)

    pub cell-none : o ≡ None → mask ≡ 0 → 0 < s.nodes → Voted 0 cells
    unfolding word_agreement
    cell-none e z pos = (
      put-idle place (is_good mask) (word_after votes s mask faults sent cells c) s.nodes cells (λ j l t. word-alone s mask faults j votes sent cells c (told_of ∙ e) z),
      least-of-none mask s.nodes low fault-of word (λ j. get_or words j 0) read_of d e z pos,
    )

    pub cell-some :
        (x : ℕ) {a : ℕ} {cells' : List ℕ} → o ≡ Some x → Put place (is_good mask) (λ j. x) s.nodes cells cells' →
        a ≡ lesser low (least (is_good mask) (λ i. holders (heard_word s mask faults (λ j. get_or words j 0) (suc c) i) s.nodes x) s.nodes) →
        Voted a cells'
    unfolding word_agreement
    cell-some x {a} {cells'} e p h = (
      put_same place (is_good mask) (is_good mask) (λ j. x) (word_after votes s mask faults sent cells c) s.nodes cells cells' (λ j l. refl)
          (λ j l t. sym (word-decided s mask faults j votes sent cells c x (told_of ∙ e))) p,
      least-of-decided mask s.nodes low fault-of word (λ j. get_or words j 0) read_of d x e h,
    )
