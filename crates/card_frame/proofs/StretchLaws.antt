-- Laws of calls up to a tick that is not refused: each phase left, and the places of the ticks.
use Rattle.std.specs.Prelude.{None}
use mathlib.Core.Path.{◌≡◌, refl, sym, ap, ap₂, ◌∙◌}
use mathlib.Core.Bool.{false}
use mathlib.Core.List.{List, [], ◌∷◌, ◌++◌, append_assoc}
use Prim.Native.Nat.{ℕ, ◌+◌, ◌%◌, ◌<◌}
use native.Mathlib.Omega.{arith}
use lib.ListN.{length}
use borrow.Author.Tests.{ne_eqb}
use Rattle.array.specs.Index.{fill}
use Rattle.array.proofs.PlacesLaws.{joined_same}
use Rattle.answer.specs.Tests.{if_passed}
use Rattle.plan.specs.declared.Plan.{Plan}
use Rattle.memory.specs.declared.Memory.{Memory}
use Rattle.memory.specs.Node.{computed, voted, setpoint, not_sent}
use Rattle.card_page.specs.Page.{phase_of}
use Rattle.card_bins.specs.Bins.{is_filled, emptied, heard_in, mailbox_in}
use Rattle.card_bins.proofs.BinsLaws.{heard-empty}
use Rattle.card_step.specs.CardParts.{CardParts, BinsFit, in_compute, in_broadcast, in_vote, in_sync, ticked_memory, ticked, ticked_bins, ticked_place}
use Rattle.card_step.specs.Calls.{CardCall, card_done, card_after, place_left}
use Rattle.card_frame.specs.CardFrame.{
  card_finally,
  lent_by,
  left_by,
  places_lent,
  places_left,
  moves,
  last_delivered,
  bin_holding,
  mailbox_delivered,
  Stretch,
  last_call,
  stretch_calls,
}
use Rattle.card_frame.proofs.StillLaws.{Stays, still-stays, still-heard, still-bins, still-places}

module _ (p : Plan) where
  -- ---- calls after calls

  pub finally-append : (cs ds : List CardCall) (k : CardParts) → card_finally p k (cs ++ ds) ≡ card_finally p (card_finally p k cs) ds
  unfolding card_finally
  finally-append [] ds k = refl
  finally-append (c ∷ cs) ds k = finally-append cs ds (card_after p k c)

  pub left-append : (cs ds : List CardCall) (k : CardParts) → places_left p k (cs ++ ds) ≡ places_left p k cs ++ places_left p (card_finally p k cs) ds
  unfolding card_finally places_left
  left-append [] ds k = refl
  left-append (c ∷ cs) ds k = rw (left-append cs ds (card_after p k c)) (simp append_assoc)

  pub lent-append : (cs ds : List CardCall) → places_lent p (cs ++ ds) ≡ places_lent p cs ++ places_lent p ds
  unfolding places_lent
  lent-append [] ds = refl
  lent-append (c ∷ cs) ds = rw (lent-append cs ds) (simp append_assoc)

  -- ---- a tick that is not refused, by the phase that it leaves

  module _ (sensors : List ℕ) (k : CardParts) where
    tick-compute : phase_of k.state ≡ in_compute → ticked_memory p sensors k ≡ computed p sensors k.state.memory
    unfolding ticked_memory
    tick-compute e = rw e

    tick-broadcast : phase_of k.state ≡ in_broadcast → ticked_memory p sensors k ≡ k.state.memory
    unfolding ticked_memory
    tick-broadcast e = rw e

    tick-vote : phase_of k.state ≡ in_vote → ticked_memory p sensors k ≡ voted p k.state.memory (mailbox_in p.cells p.nodes k.bins)
    unfolding ticked_memory
    tick-vote e = rw e

    tick-sync : phase_of k.state ≡ in_sync → ticked_memory p sensors k ≡ k.state.memory
    unfolding ticked_memory
    tick-sync e = rw e

    tick-memory : (ticked p sensors k).state.memory ≡ ticked_memory p sensors k
    unfolding ticked
    tick-memory = refl

    tick-phase : (f : ℕ) → phase_of k.state ≡ f → (ticked p sensors k).state.phase ≡ (f + 1) % 4
    unfolding ticked
    tick-phase f e = rw e

    tick-bins : (phase_of k.state ≡ in_sync → ⊥) → (ticked p sensors k).bins ≡ k.bins
    unfolding ticked ticked_bins
    tick-bins other = rw (ne_eqb (phase_of k.state) in_sync other)

    tick-emptied : phase_of k.state ≡ in_sync → (ticked p sensors k).bins ≡ emptied p.cells p.nodes k.bins
    unfolding ticked ticked_bins
    tick-emptied e = rw e

  -- ---- calls up to one

  module _ (t : Stretch p) (k : CardParts) (fit : BinsFit p k) where
    abbrev before : CardParts
    before = card_finally p k t.earlier

    abbrev after : CardParts
    after = card_finally p k (stretch_calls p t)

    before-stays : Stays k before
    before-stays = still-stays p t.earlier k fit t.no-tick

    tick-runs : card_finally p before (last_call p t ∷ []) ≡ ticked p t.sensors before
    unfolding card_finally card_after card_done if_passed moves
    tick-runs = rw t.not-refused

    after_is : after ≡ ticked p t.sensors before
    after_is = finally-append t.earlier (last_call p t ∷ []) k ∙ tick-runs

    after-memory : after.state.memory ≡ ticked_memory p t.sensors before
    after-memory = ap (λ (x : CardParts). x.state.memory) after_is ∙ tick-memory t.sensors before

    pub stretch-phase : (f : ℕ) → phase_of k.state ≡ f → after.state.phase ≡ (f + 1) % 4
    stretch-phase f e = ap (λ (x : CardParts). x.state.phase) after_is ∙ tick-phase t.sensors before f (before-stays.phase-stays ∙ e)

    -- "Leaving compute runs the tasks"
    pub stretch-compute : phase_of k.state ≡ in_compute → after.state.memory ≡ computed p t.sensors k.state.memory
    stretch-compute e =
        after-memory ∙ tick-compute t.sensors before (before-stays.phase-stays ∙ e) ∙ ap (computed p t.sensors) before-stays.memory-stays

    pub stretch-broadcast : phase_of k.state ≡ in_broadcast → after.state.memory ≡ k.state.memory
    stretch-broadcast e = after-memory ∙ tick-broadcast t.sensors before (before-stays.phase-stays ∙ e) ∙ before-stays.memory-stays

    -- "leaving vote votes"
    pub stretch-vote : phase_of k.state ≡ in_vote → after.state.memory ≡ voted p k.state.memory (mailbox_in p.cells p.nodes k.bins)
    stretch-vote e =
        after-memory
        ∙ tick-vote t.sensors before (before-stays.phase-stays ∙ e)
        ∙ ap₂ (λ (m : Memory) (b : List ℕ). voted p m (mailbox_in p.cells p.nodes b)) before-stays.memory-stays
        (still-bins p t.earlier k fit (λ b. let z : in_vote ≡ in_broadcast = sym e ∙ b in omega (arith, z)) t.no-tick)

    pub stretch-sync : phase_of k.state ≡ in_sync → after.state.memory ≡ k.state.memory
    stretch-sync e = after-memory ∙ tick-sync t.sensors before (before-stays.phase-stays ∙ e) ∙ before-stays.memory-stays

    -- ---- the bins

    after-bins : (phase_of k.state ≡ in_sync → ⊥) → after.bins ≡ before.bins
    after-bins other = ap (λ (x : CardParts). x.bins) after_is ∙ tick-bins t.sensors before (λ e. other (sym before-stays.phase-stays ∙ e))

    pub stretch-bins : (phase_of k.state ≡ in_broadcast → ⊥) → (phase_of k.state ≡ in_sync → ⊥) → after.bins ≡ k.bins
    stretch-bins b s = after-bins s ∙ still-bins p t.earlier k fit b t.no-tick

    -- leaving broadcast: what was delivered to the empty bins
    module _ (e : phase_of k.state ≡ in_broadcast) where
      holding-none : bin_holding p None ≡ not_sent p.cells
      unfolding bin_holding
      holding-none = refl

      broadcast-bins : after.bins ≡ before.bins
      broadcast-bins = after-bins (λ s. let z : in_broadcast ≡ in_sync = sym e ∙ s in omega (arith, z))

      pub stretch-size : length after.bins ≡ length k.bins
      stretch-size = ap length broadcast-bins ∙ before-stays.size-stays

      pub stretch-mailbox :
          ((j : ℕ) → j < p.nodes → is_filled p.cells k.bins j ≡ false) →
          mailbox_in p.cells p.nodes after.bins ≡ mailbox_delivered p t.earlier
      unfolding mailbox_in mailbox_delivered
      stretch-mailbox empty =
          joined_same (heard_in p.cells after.bins) (λ j. bin_holding p (last_delivered p j t.earlier None)) p.nodes
          (λ j l. ap (λ (b : List ℕ). heard_in p.cells b j) broadcast-bins ∙ still-heard p j l t.earlier k None fit e t.no-tick (nothing j l))
        where
          nothing : (j : ℕ) → j < p.nodes → heard_in p.cells k.bins j ≡ bin_holding p None
          nothing j l = heard-empty p.cells k.bins j (empty j l) ∙ sym holding-none

    -- "entering compute empties all"
    pub stretch-emptied : phase_of k.state ≡ in_sync → after.bins ≡ emptied p.cells p.nodes k.bins
    stretch-emptied e =
        ap (λ (x : CardParts). x.bins) after_is
        ∙ tick-emptied t.sensors before (before-stays.phase-stays ∙ e)
        ∙ ap (emptied p.cells p.nodes)
        (still-bins p t.earlier k fit (λ b. let z : in_sync ≡ in_broadcast = sym e ∙ b in omega (arith, z)) t.no-tick)

    -- ---- the places

    place_kept : (phase_of before.state ≡ in_sync → ⊥) → places_left p before (last_call p t ∷ []) ≡ places_lent p (last_call p t ∷ [])
    unfolding places_left places_lent left_by lent_by moves place_left if_passed ticked_place
    place_kept other = rw (t.not-refused, ne_eqb (phase_of before.state) in_sync other)

    -- "other ticks don't touch their place"
    pub stretch-places : (phase_of k.state ≡ in_sync → ⊥) → places_left p k (stretch_calls p t) ≡ places_lent p (stretch_calls p t)
    stretch-places other =
        left-append t.earlier (last_call p t ∷ []) k
        ∙ ap₂ ◌++◌ (still-places p t.earlier k t.no-tick) (place_kept (λ e. other (sym before-stays.phase-stays ∙ e)))
        ∙ sym (lent-append t.earlier (last_call p t ∷ []))

    place-given :
        phase_of before.state ≡ in_sync →
        places_left p before (last_call p t ∷ []) ≡ fill (setpoint p before.state.memory) p.actuators t.place ∷ []
    unfolding places_left left_by moves place_left if_passed ticked_place
    place-given e = rw (t.not-refused, e)

    -- "leaving sync gives the setpoints"
    pub stretch-setpoints :
        phase_of k.state ≡ in_sync →
        places_left p k (stretch_calls p t) ≡ places_lent p t.earlier ++ (fill (setpoint p k.state.memory) p.actuators t.place ∷ [])
    stretch-setpoints e =
        left-append t.earlier (last_call p t ∷ []) k
        ∙ ap₂ ◌++◌ (still-places p t.earlier k t.no-tick)
        (place-given (before-stays.phase-stays ∙ e)
        ∙ ap (λ (m : Memory). fill (setpoint p m) p.actuators t.place ∷ []) before-stays.memory-stays)
