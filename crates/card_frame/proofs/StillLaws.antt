-- Laws of calls of which none is a tick that is not refused: what they leave as it was, and what they deliver.
use Rattle.std.specs.Prelude.{Option, Some}
use mathlib.Core.Path.{◌≡◌, refl, sym, ap, ap₂, ◌∙◌}
use mathlib.Core.Bool.{Bool, true, false, not, cond}
use mathlib.Core.List.{List, [], ◌∷◌, ◌++◌}
use Prim.Native.Nat.{ℕ, ◌+◌, ◌%◌, ◌≤◌, ◌<◌}
use native.Mathlib.Omega.{arith}
use lib.Dec.{eqb, ltb}
use lib.ListN.{length}
use borrow.Author.Tests.{eqb-true, eqb-false, ltb-true, ne_eqb, lt-ltb, not-true}
use Rattle.array.proofs.TestLaws.{split, clash, and_left, and_right}
use Rattle.answer.specs.Tests.{passed, if_passed}
use Rattle.plan.specs.declared.Plan.{Plan}
use Rattle.plan.specs.Accepted.{accepted}
use Rattle.memory.specs.Size.{message_size}
use Rattle.card_page.specs.declared.CardState.{CardState}
use Rattle.card_page.specs.Page.{phase_of, with_flags, as_counts, with_mask, with_cleared, written_at, mask_at}
use Rattle.card_bins.specs.Bins.{slot_size, slot_at, heard_in}
use Rattle.card_bins.proofs.BinsLaws.{slot-ends, filled-length, filled-heard, filled-other-heard}
use Rattle.card_step.specs.CardParts.{CardParts, BinsFit, in_broadcast, takes_bin, delivered}
use Rattle.card_step.specs.Calls.{CardCall, reading, writing, delivery, ticking, card_tests, card_done, card_after, place_left}
use Rattle.card_frame.specs.CardFrame.{card_finally, lent_by, left_by, places_lent, places_left, moves, none_moves, delivered_by, last_delivered, bin_holding}

-- by the two cases of a test
pub cond_either : {A : Type 0} (P : A → Type 0) (b : Bool) {x y : A} → (b ≡ true → P x) → (b ≡ false → P y) → P (cond b x y)
cond_either P true f g = f refl
cond_either P false f g = g refl

-- what stays of a card while its phase does
pub record Stays (k now : CardParts) : Type 0 where
  pub memory-stays : now.state.memory ≡ k.state.memory
  pub phase-stays : phase_of now.state ≡ phase_of k.state
  pub size-stays : length now.bins ≡ length k.bins

stays_same : (k : CardParts) → Stays k k
stays_same k = record { memory-stays = refl; phase-stays = refl; size-stays = refl }

stays_on : {k next now : CardParts} → Stays k next → Stays next now → Stays k now
stays_on a b =
    record {
      memory-stays = b.memory-stays ∙ a.memory-stays;
      phase-stays = b.phase-stays ∙ a.phase-stays;
      size-stays = b.size-stays ∙ a.size-stays;
    }

-- ---- one call

-- a state as it counts, and bins of one size
counted-stays :
    (k : CardParts) {now : CardParts} → now.state.memory ≡ k.state.memory → now.state.phase ≡ phase_of k.state →
    length now.bins ≡ length k.bins → Stays k now
unfolding phase_of
counted-stays k {now} m e l =
    let twice : k.state.phase % 4 % 4 ≡ k.state.phase % 4 = omega arith in
    record { memory-stays = m; phase-stays = ap (λ (x : ℕ). x % 4) e ∙ twice; size-stays = l }

module _ (p : Plan) (k : CardParts) where
  written-stays : (at value : ℕ) → Stays k (record { state = written_at k.state at value; bins = k.bins })
  unfolding written_at with_mask with_cleared with_flags
  written-stays at value =
      cond_either (λ (s : CardState). Stays k (record { state = s; bins = k.bins })) (eqb at mask_at)
      (λ t. counted-stays k refl refl refl) (λ t. counted-stays k refl refl refl)

  -- a message that is not refused is whole
  pub message-whole : (number : ℕ) (message : List ℕ) → passed (card_tests p (delivery number message)) ≡ true → length message ≡ message_size p
  unfolding card_tests passed
  message-whole number message e =
      eqb-true (length message) (message_size p) (and_left (eqb (length message) (message_size p)) true (and_right (accepted p) _ e))

  pub takes-number : (number : ℕ) → takes_bin p number k ≡ true → number < p.nodes
  unfolding takes_bin
  takes-number number e = ltb-true number p.nodes (and_right (eqb (phase_of k.state) in_broadcast) (ltb number p.nodes) e)

  module _ (fit : BinsFit p k) where
    pub slot-fits : (number : ℕ) → number < p.nodes → slot_at p.cells number + slot_size p.cells ≤ length k.bins
    slot-fits number l = omega (arith, fit, slot-ends p.cells number p.nodes l)

    delivered-stays : (number : ℕ) (message : List ℕ) → length message ≡ message_size p → Stays k (delivered p number k message)
    unfolding delivered with_flags as_counts
    delivered-stays number message whole =
        cond_either (Stays k) (takes_bin p number k)
        (λ t. counted-stays k refl refl (filled-length p.cells number message k.bins (slot-fits number (takes-number number t)) whole))
        (λ t. counted-stays k refl refl refl)

    -- a call that is no tick, or a refused one
    call_stays : (c : CardCall) → moves p c ≡ false → Stays k (card_after p k c)
    unfolding card_after card_done if_passed moves
    call_stays (reading at) e = cond_either (Stays k) (passed (card_tests p (reading at))) (λ t. stays_same k) (λ t. stays_same k)
    call_stays (writing at value) e = cond_either (Stays k) (passed (card_tests p (writing at value))) (λ t. written-stays at value) (λ t. stays_same k)
    call_stays (delivery number message) e =
        cond_either (Stays k) (passed (card_tests p (delivery number message)))
        (λ t. delivered-stays number message (message-whole number message t)) (λ t. stays_same k)
    call_stays (ticking sensors place) e =
        cond_either (Stays k) (passed (card_tests p (ticking sensors place))) (λ t. absurd (clash t e)) (λ t. stays_same k)

    -- in the phase broadcast: what is heard in a bin follows what was delivered to it
    module _ (broadcast : phase_of k.state ≡ in_broadcast) (j : ℕ) (below : j < p.nodes) (earlier : Option (List ℕ)) where
      abbrev HeardAs : Option (List ℕ) → CardParts → Type 0
      HeardAs told now = heard_in p.cells now.bins j ≡ bin_holding p told

      own-taken : takes_bin p j k ≡ true
      unfolding takes_bin
      own-taken = rw (broadcast, lt-ltb j p.nodes below)

      own-heard : (number : ℕ) (message : List ℕ) → length message ≡ message_size p → number ≡ j → HeardAs (Some message) (delivered p number k message)
      unfolding delivered bin_holding
      own-heard number message whole same = rw (same, own-taken) (filled-heard p.cells j message k.bins (slot-fits j below) whole)

      other-heard :
          (number : ℕ) (message : List ℕ) → length message ≡ message_size p → (j ≡ number → ⊥) → HeardAs earlier k →
          HeardAs earlier (delivered p number k message)
      unfolding delivered
      other-heard number message whole other h =
          cond_either (HeardAs earlier) (takes_bin p number k)
          (λ t. filled-other-heard p.cells number message k.bins (slot-fits number (takes-number number t)) whole j other ∙ h) (λ t. h)

      -- a refused delivery delivers nothing
      delivery-heard :
          (number : ℕ) (message : List ℕ) → HeardAs earlier k →
          HeardAs (delivered_by p j (delivery number message) earlier) (card_after p k (delivery number message))
      unfolding card_after card_done if_passed delivered_by
      delivery-heard number message h =
          split (passed (card_tests p (delivery number message)))
          (λ t.
          let whole : length message ≡ message_size p = message-whole number message t in
          split (eqb number j)
          (λ n. rw (t, n) (own-heard number message whole (eqb-true number j n)))
          (λ n. rw (t, n) (other-heard number message whole (λ s. eqb-false number j n (sym s)) h)))
          (λ t. split (eqb number j) (λ n. rw (t, n) h) (λ n. rw (t, n) h))

      call-heard : (c : CardCall) → moves p c ≡ false → HeardAs earlier k → HeardAs (delivered_by p j c earlier) (card_after p k c)
      unfolding card_after card_done if_passed moves delivered_by
      call-heard (reading at) e h = cond_either (HeardAs earlier) (passed (card_tests p (reading at))) (λ t. h) (λ t. h)
      call-heard (writing at value) e h = cond_either (HeardAs earlier) (passed (card_tests p (writing at value))) (λ t. h) (λ t. h)
      call-heard (delivery number message) e h = delivery-heard number message h
      call-heard (ticking sensors place) e h =
          cond_either (HeardAs earlier) (passed (card_tests p (ticking sensors place))) (λ t. absurd (clash t e)) (λ t. h)

  -- in another phase the bins stay as they are
  abbrev SameBins : CardParts → Type 0
  SameBins now = now.bins ≡ k.bins

  module _ (other : phase_of k.state ≡ in_broadcast → ⊥) where
    delivery-left : (number : ℕ) (message : List ℕ) → SameBins (delivered p number k message)
    unfolding delivered takes_bin
    delivery-left number message = rw (ne_eqb (phase_of k.state) in_broadcast other)

    call-bins : (c : CardCall) → moves p c ≡ false → SameBins (card_after p k c)
    unfolding card_after card_done if_passed moves
    call-bins (reading at) e = cond_either SameBins (passed (card_tests p (reading at))) (λ t. refl) (λ t. refl)
    call-bins (writing at value) e = cond_either SameBins (passed (card_tests p (writing at value))) (λ t. refl) (λ t. refl)
    call-bins (delivery number message) e =
        cond_either SameBins (passed (card_tests p (delivery number message))) (λ t. delivery-left number message) (λ t. refl)
    call-bins (ticking sensors place) e =
        cond_either SameBins (passed (card_tests p (ticking sensors place))) (λ t. absurd (clash t e)) (λ t. refl)

  -- a refused tick leaves its place
  call-places : (c : CardCall) → moves p c ≡ false → left_by p k c ≡ lent_by p c
  unfolding left_by lent_by moves place_left if_passed
  call-places (reading at) e = refl
  call-places (writing at value) e = refl
  call-places (delivery number message) e = refl
  call-places (ticking sensors place) e = rw e

-- ---- calls of which none moves

module _ (p : Plan) where
  none-head : (c : CardCall) (cs : List CardCall) → none_moves p (c ∷ cs) ≡ true → moves p c ≡ false
  unfolding none_moves
  none-head c cs e = not-true (moves p c) (and_left (not (moves p c)) (none_moves p cs) e)

  none_tail : (c : CardCall) (cs : List CardCall) → none_moves p (c ∷ cs) ≡ true → none_moves p cs ≡ true
  unfolding none_moves
  none_tail c cs e = and_right (not (moves p c)) (none_moves p cs) e

  fits-still : (k now : CardParts) → Stays k now → BinsFit p k → BinsFit p now
  fits-still k now s fit = omega (arith, s.size-stays, fit)

  pub still-stays : (cs : List CardCall) (k : CardParts) → BinsFit p k → none_moves p cs ≡ true → Stays k (card_finally p k cs)
  unfolding card_finally
  still-stays [] k fit e = stays_same k
  still-stays (c ∷ cs) k fit e =
      let one : Stays k (card_after p k c) = call_stays p k fit c (none-head c cs e) in
      stays_on one (still-stays cs (card_after p k c) (fits-still k (card_after p k c) one fit) (none_tail c cs e))

  pub still-heard :
      (j : ℕ) → j < p.nodes → (cs : List CardCall) (k : CardParts) (earlier : Option (List ℕ)) →
      BinsFit p k → phase_of k.state ≡ in_broadcast → none_moves p cs ≡ true →
      heard_in p.cells k.bins j ≡ bin_holding p earlier → heard_in p.cells (card_finally p k cs).bins j ≡ bin_holding p (last_delivered p j cs earlier)
  unfolding card_finally last_delivered
  still-heard j below [] k earlier fit b e h = h
  still-heard j below (c ∷ cs) k earlier fit b e h =
      let one : Stays k (card_after p k c) = call_stays p k fit c (none-head c cs e) in
      still-heard j below cs (card_after p k c) (delivered_by p j c earlier) (fits-still k (card_after p k c) one fit) (one.phase-stays ∙ b) (none_tail c cs e)
      (call-heard p k fit b j below earlier c (none-head c cs e) h)

  pub still-bins :
      (cs : List CardCall) (k : CardParts) → BinsFit p k → (phase_of k.state ≡ in_broadcast → ⊥) → none_moves p cs ≡ true → (card_finally p k cs).bins ≡ k.bins
  unfolding card_finally
  still-bins [] k fit other e = refl
  still-bins (c ∷ cs) k fit other e =
      let one : Stays k (card_after p k c) = call_stays p k fit c (none-head c cs e) in
      still-bins cs (card_after p k c) (fits-still k (card_after p k c) one fit) (λ b. other (sym one.phase-stays ∙ b)) (none_tail c cs e)
      ∙ call-bins p k other c (none-head c cs e)

  pub still-places : (cs : List CardCall) (k : CardParts) → none_moves p cs ≡ true → places_left p k cs ≡ places_lent p cs
  unfolding places_left places_lent
  still-places [] k e = refl
  still-places (c ∷ cs) k e = ap₂ ◌++◌ (call-places p k c (none-head c cs e)) (still-places cs (card_after p k c) (none_tail c cs e))
