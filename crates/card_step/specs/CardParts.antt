-- Request 2026-07: what a delivery and a tick that are not refused make of a card, by its parts: its state, and its bins, bytes of any number from n bins up.
use Rattle.std.specs.Prelude.{Bool, true, cond, ◌&&◌, ◌||◌, List, ℕ, ◌+◌, ◌*◌, ◌%◌, ◌≤◌, eqb, ltb, length}
use Rattle.array.specs.Index.{fill}
use Rattle.plan.specs.declared.Plan.{Plan}
use Rattle.memory.specs.declared.Memory.{Memory}
use Rattle.memory.specs.Node.{powered_on, computed, voted, setpoint}
use Rattle.card_page.specs.declared.CardState.{CardState}
use Rattle.card_page.specs.declared.Phase.TheVariants.{Compute, Broadcast, Vote, Sync}
use Rattle.card_page.specs.Page.{two_bits, named_bits, phase_number, phase_of, timer_due, bins_full, with_flags, as_counts}
use Rattle.card_bins.specs.Bins.{slot_size, with_bin, emptied, last_empty, mailbox_in}

pub record CardParts : Type 0 where
  pub state : CardState
  pub bins : List ℕ

-- the bins have the bytes of the plan's n
abbrev pub BinsFit : Plan → CardParts → Type 0
BinsFit p k = p.nodes * slot_size p.cells ≤ length k.bins

-- the numbers of the phases
abbrev pub in_compute : ℕ
in_compute = phase_number Compute

abbrev pub in_broadcast : ℕ
in_broadcast = phase_number Broadcast

abbrev pub in_vote : ℕ
in_vote = phase_number Vote

abbrev pub in_sync : ℕ
in_sync = phase_number Sync

-- "At power-on phase, flags and mask are 0"
unfoldable pub powered_state : Plan → CardState
powered_state p = record { memory = powered_on p; phase = 0; flags = 0; mask = 0 }

-- ---- a delivery

module _ (p : Plan) (number : ℕ) (k : CardParts) where
  -- "a bin number from n up, or outside phase 1, changes nothing"
  unfoldable pub takes_bin : Bool
  takes_bin = eqb (phase_of k.state) in_broadcast && ltb number p.nodes

  -- "Bit 1 is set when the last empty bin is filled"
  unfoldable pub full_after : Bool
  full_after = bins_full k.state || last_empty p.cells p.nodes k.bins number

  unfoldable pub delivered : List ℕ → CardParts
  delivered message =
      cond takes_bin
      (record { state = with_flags k.state (timer_due k.state) full_after; bins = with_bin p.cells number message k.bins })
      (record { state = as_counts k.state; bins = k.bins })

-- ---- a tick

-- "Leaving compute runs the tasks, leaving vote votes"
unfoldable pub ticked_memory : Plan → List ℕ → CardParts → Memory
ticked_memory p sensors k =
    cond (eqb (phase_of k.state) in_compute) (computed p sensors k.state.memory)
    (cond (eqb (phase_of k.state) in_vote) (voted p k.state.memory (mailbox_in p.cells p.nodes k.bins)) k.state.memory)

-- "entering compute empties all"
unfoldable pub ticked_bins : Plan → CardParts → List ℕ
ticked_bins p k = cond (eqb (phase_of k.state) in_sync) (emptied p.cells p.nodes k.bins) k.bins

-- "A tick sets bit 0 and moves the phase on, from sync back to compute."
unfoldable pub ticked : Plan → List ℕ → CardParts → CardParts
ticked p sensors k =
    record {
      state =
          record {
            memory = ticked_memory p sensors k;
            phase = (phase_of k.state + 1) % 4;
            flags = two_bits true (bins_full k.state);
            mask = named_bits k.state.mask;
          };
      bins = ticked_bins p k;
    }

-- "leaving sync gives the setpoints; other ticks don't touch their place"
unfoldable pub ticked_place : Plan → CardParts → List ℕ → List ℕ
ticked_place p k place = cond (eqb (phase_of k.state) in_sync) (fill (setpoint p k.state.memory) p.actuators place) place
