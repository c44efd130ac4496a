-- What a delivery and a tick make of a card, by the tests that the code makes.
use mathlib.Core.Path.{◌≡◌, refl, sym}
use mathlib.Core.Bool.{and-false, Bool, true, false, ◌||◌}
use mathlib.Core.List.{List}
use Prim.Native.Nat.{ℕ, ◌+◌, ◌%◌, ◌<◌, ◌≤◌}
use borrow.Author.Tests.{lt-ltb, le-ltb}
use Rattle.std.proofs.Common.{◌⊎◌, inl, inr}
use Rattle.array.specs.Index.{fill}
use Rattle.array.proofs.TestLaws.{split}
use Rattle.plan.specs.declared.Plan.{Plan}
use Rattle.memory.specs.declared.Memory.{Memory}
use Rattle.memory.specs.Node.{computed, voted, setpoint}
use Rattle.card_page.specs.declared.CardState.{CardState}
use Rattle.card_page.specs.declared.Phase.{Phase}
use Rattle.card_page.specs.declared.Phase.TheVariants.{Compute, Broadcast, Vote, Sync}
use Rattle.card_page.specs.Page.{phase_number, phase_of, timer_due, bins_full, with_flags, as_counts}
use Rattle.card_bins.specs.Bins.{with_bin, emptied, last_empty, mailbox_in}
use Rattle.card_step.specs.CardParts.{CardParts, takes_bin, full_after, delivered, ticked_memory, ticked_bins, ticked, ticked_place}

-- ---- a delivery

module _ (p : Plan) (number : ℕ) (k : CardParts) where
  -- a bin is filled in broadcast, for a number below n
  pub takes-in : {n : ℕ} {phase : Phase} → phase_number phase ≡ phase_of k.state → phase ≡ Broadcast → p.nodes ≡ n → number < n → takes_bin p number k ≡ true
  unfolding takes_bin
  takes-in {n} e b f g = rw (sym e, b, f, lt-ltb number n g)

  pub takes-not-from : {n : ℕ} → p.nodes ≡ n → n ≤ number → takes_bin p number k ≡ false
  unfolding takes_bin
  takes-not-from {n} f g = rw (f, le-ltb number n g, and-false)

  pub takes-not-outside : (phase : Phase) → phase_number phase ≡ phase_of k.state → (phase ≡ Broadcast → ⊥) → takes_bin p number k ≡ false
  unfolding takes_bin
  takes-not-outside Compute e f = rw (sym e)
  takes-not-outside Broadcast e f = absurd (f refl)
  takes-not-outside Vote e f = rw (sym e)
  takes-not-outside Sync e f = rw (sym e)

  pub full_is :
      {full last : Bool} (n cells : ℕ) →
      full ≡ bins_full k.state →
      last ≡ last_empty cells n k.bins number →
      p.nodes ≡ n →
      p.cells ≡ cells →
      full || last ≡ full_after p number k
  unfolding full_after
  full_is n cells e f g h = rw (e, f, g, h)

  pub delivered-taken :
      (message : List ℕ) {s : CardState} {b : List ℕ} (cells : ℕ) →
      takes_bin p number k ≡ true →
      p.cells ≡ cells →
      s ≡ with_flags k.state (timer_due k.state) (full_after p number k) →
      b ≡ with_bin cells number message k.bins →
      ◌≡◌ {A = CardParts} (record { state = s; bins = b }) (delivered p number k message)
  unfolding delivered
  delivered-taken message cells t g e f = rw (t, e, f, g)

  pub delivered-left :
      (message : List ℕ) {s : CardState} {b : List ℕ} →
      takes_bin p number k ≡ false →
      s ≡ as_counts k.state →
      b ≡ k.bins →
      ◌≡◌ {A = CardParts} (record { state = s; bins = b }) (delivered p number k message)
  unfolding delivered
  delivered-left message t e f = rw (t, e, f)

  -- the memory stays
  pub delivered-memory : (message : List ℕ) → (delivered p number k message).state.memory ≡ k.state.memory
  unfolding delivered as_counts with_flags
  delivered-memory message = split (takes_bin p number k) (λ t. rw t) (λ t. rw t)

-- ---- a tick

module _ (p : Plan) (k : CardParts) where
  pub memory-computed : (sensors : List ℕ) {r : Memory} → 0 ≡ phase_of k.state → r ≡ computed p sensors k.state.memory → r ≡ ticked_memory p sensors k
  unfolding ticked_memory
  memory-computed sensors e f = rw (sym e) f

  pub memory-voted :
      (sensors : List ℕ) {r : Memory} → 2 ≡ phase_of k.state → r ≡ voted p k.state.memory (mailbox_in p.cells p.nodes k.bins) → r ≡ ticked_memory p sensors k
  unfolding ticked_memory
  memory-voted sensors e f = rw (sym e) f

  pub memory_kept :
      (sensors : List ℕ) {phase : Phase} → phase_number phase ≡ phase_of k.state → (phase ≡ Broadcast) ⊎ (phase ≡ Sync) → k.state.memory ≡ ticked_memory p sensors k
  unfolding ticked_memory
  memory_kept sensors e f = elim f [ inl b ↦ rw (sym e, b) | inr s ↦ rw (sym e, s) ]

  pub closed :
      (place : List ℕ) {b r : List ℕ} →
      3 ≡ phase_of k.state →
      b ≡ emptied p.cells p.nodes k.bins →
      r ≡ fill (setpoint p k.state.memory) p.actuators place →
      b ≡ ticked_bins p k × r ≡ ticked_place p k place
  unfolding ticked_bins ticked_place
  closed place e f g = (rw (sym e) f, rw (sym e) g)

  pub not-closed :
      (place : List ℕ) {phase : Phase} →
      phase_number phase ≡ phase_of k.state →
      (phase ≡ Compute) ⊎ ((phase ≡ Broadcast) ⊎ (phase ≡ Vote)) →
      k.bins ≡ ticked_bins p k × place ≡ ticked_place p k place
  unfolding ticked_bins ticked_place
  not-closed place e f = elim f [ inl c ↦ (rw (sym e, c), rw (sym e, c)) | inr (inl b) ↦ (rw (sym e, b), rw (sym e, b)) | inr (inr v) ↦ (rw (sym e, v), rw (sym e, v)) ]

pub ticked-is :
    (p : Plan) (sensors : List ℕ) (k : CardParts) {m : Memory} {phase next : ℕ} {full : Bool} {flagged : CardState} {b : List ℕ} →
    m ≡ ticked_memory p sensors k →
    phase ≡ phase_of k.state →
    next ≡ (phase + 1) % 4 →
    full ≡ bins_full k.state →
    flagged ≡ with_flags k.state true full →
    b ≡ ticked_bins p k →
    ◌≡◌ {A = CardParts} (record { state = record { memory = m; phase = next; flags = flagged.flags; mask = flagged.mask }; bins = b }) (ticked p sensors k)
unfolding ticked with_flags
ticked-is p sensors k e f n g h i = rw (e, n, f, h, g, i)
