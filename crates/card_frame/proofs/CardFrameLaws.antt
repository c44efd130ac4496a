-- Four ticks of a card that are not refused are its node's frame; four times as many are so many frames, on the press's card too.
use Rattle.std.specs.Prelude.{Some, Ok}
use mathlib.Core.Path.{◌≡◌, refl, sym, ap, ap₂, subst, ◌∙◌}
use mathlib.Core.Bool.{true, false}
use mathlib.Core.List.{List, [], ◌∷◌, ◌++◌, append_assoc}
use Prim.Native.Nat.{ℕ, ◌*◌, ◌≤◌, ◌<◌}
use native.Mathlib.Omega.{arith}
use lib.ListN.{length, replicate, length-replicate}
use Rattle.array.specs.Index.{fill}
use Rattle.answer.proofs.TestLaws.{given-later, given-none}
use Rattle.plan.specs.declared.Plan.{Plan}
use Rattle.plan.specs.Accepted.{accepted}
use Rattle.plan.proofs.AcceptedLaws.{shape-of-accepted}
use Rattle.plan_period.specs.Answers.{plan_tests}
use Rattle.memory.specs.declared.Memory.{Memory}
use Rattle.memory.specs.Node.{powered_on, computed, voted, setpoint}
use Rattle.system.specs.declared.System.{System}
use Rattle.system.specs.Fault.{bad}
use Rattle.system.specs.Frame.{memory_of, computed_by, mailbox_of, memory_after, put_out}
use Rattle.card_page.specs.Page.{phase_of}
use Rattle.card_bins.specs.Bins.{slot_size, is_filled, emptied, mailbox_in}
use Rattle.card_bins.proofs.StoreLaws.{emptied-length}
use Rattle.card_bins.proofs.BinsLaws.{zeros-empty, emptied-empty}
use Rattle.card_step.specs.CardParts.{CardParts, BinsFit, in_compute, in_broadcast, in_vote, in_sync, powered_state}
use Rattle.card_step.specs.Calls.{CardCall, card_after}
use Rattle.card.specs.declared.Card.{Card}
use Rattle.card.specs.Card.{most_bins, parts_of, card_of, powered_card, card_power_on, card_left}
use Rattle.card.proofs.CallLaws.{most-bins}
use Rattle.card_frame.specs.CardFrame.{
  card_finally,
  places_lent,
  places_left,
  mailbox_delivered,
  stretch_calls,
  FourTicks,
  calls_before,
  four_calls,
  AtCompute,
  frame_on,
  frame_places,
  FrameDone,
  CardFrame,
  frames_calls,
  frames_on,
  frames_places,
  FramesDone,
  CardFrames,
  cards_called,
  PressCards,
  PressCardOn,
  CardOfGoodNode,
}
use Rattle.card_frame.proofs.FourTicksLaws.{calls_are}
use Rattle.card_frame.proofs.StretchLaws.{
  finally-append,
  left-append,
  lent-append,
  stretch-phase,
  stretch-compute,
  stretch-broadcast,
  stretch-vote,
  stretch-sync,
  stretch-bins,
  stretch-size,
  stretch-mailbox,
  stretch-emptied,
  stretch-places,
  stretch-setpoints,
}

-- ---- the frame, phase by phase

-- a phase below 4 counts as it is
phase-counts : (k : CardParts) (f : ℕ) → f < 4 → k.state.phase ≡ f → phase_of k.state ≡ f
unfolding phase_of
phase-counts k f l e = omega (arith, e, l)

phase-apart : {x : ℕ} (f g : ℕ) → x ≡ f → (f ≡ g → ⊥) → x ≡ g → ⊥
phase-apart f g e apart h = apart (sym e ∙ h)

module _ (p : Plan) (k : CardParts) (start : AtCompute p k) (f : FourTicks p) where
  abbrev after_first : CardParts
  after_first = card_finally p k (stretch_calls p f.first)

  abbrev after_second : CardParts
  after_second = card_finally p after_first (stretch_calls p f.second)

  abbrev after_third : CardParts
  after_third = card_finally p after_second (stretch_calls p f.third)

  abbrev after_fourth : CardParts
  after_fourth = card_finally p after_third (stretch_calls p f.fourth)

  -- leaving compute

  first-phase : phase_of after_first.state ≡ in_broadcast
  first-phase = phase-counts after_first in_broadcast (omega arith) (stretch-phase p f.first k start.bins-fit in_compute start.in-compute)

  first-memory : after_first.state.memory ≡ computed p f.first.sensors k.state.memory
  first-memory = stretch-compute p f.first k start.bins-fit start.in-compute

  first-bins : after_first.bins ≡ k.bins
  first-bins =
      stretch-bins p f.first k start.bins-fit
      (phase-apart in_compute in_broadcast start.in-compute (omega arith))
      (phase-apart in_compute in_sync start.in-compute (omega arith))

  first-fit : BinsFit p after_first
  first-fit = rw first-bins start.bins-fit

  first-empty : (j : ℕ) → j < p.nodes → is_filled p.cells after_first.bins j ≡ false
  first-empty j l = rw first-bins (start.bins-empty j l)

  -- leaving broadcast

  second-phase : phase_of after_second.state ≡ in_vote
  second-phase = phase-counts after_second in_vote (omega arith) (stretch-phase p f.second after_first first-fit in_broadcast first-phase)

  second-memory : after_second.state.memory ≡ computed p f.first.sensors k.state.memory
  second-memory = stretch-broadcast p f.second after_first first-fit first-phase ∙ first-memory

  second-fit : BinsFit p after_second
  second-fit = rw (stretch-size p f.second after_first first-fit first-phase) first-fit

  second-mailbox : mailbox_in p.cells p.nodes after_second.bins ≡ mailbox_delivered p f.second.earlier
  second-mailbox = stretch-mailbox p f.second after_first first-fit first-phase first-empty

  -- leaving vote

  third-phase : phase_of after_third.state ≡ in_sync
  third-phase = phase-counts after_third in_sync (omega arith) (stretch-phase p f.third after_second second-fit in_vote second-phase)

  third-memory : after_third.state.memory ≡ frame_on p k.state.memory f
  unfolding frame_on
  third-memory = stretch-vote p f.third after_second second-fit second-phase ∙ ap₂ (voted p) second-memory second-mailbox

  third-fit : BinsFit p after_third
  third-fit =
      rw
      (stretch-bins p f.third after_second second-fit
      (phase-apart in_vote in_broadcast second-phase (omega arith))
      (phase-apart in_vote in_sync second-phase (omega arith)))
      second-fit

  -- leaving sync

  fourth-phase : after_fourth.state.phase ≡ 0
  fourth-phase = stretch-phase p f.fourth after_third third-fit in_sync third-phase

  fourth-memory : after_fourth.state.memory ≡ after_third.state.memory
  fourth-memory = stretch-sync p f.fourth after_third third-fit third-phase

  fourth-bins : after_fourth.bins ≡ emptied p.cells p.nodes after_third.bins
  fourth-bins = stretch-emptied p f.fourth after_third third-fit third-phase

  fourth-start : AtCompute p after_fourth
  fourth-start =
      record {
        bins-fit = rw (fourth-bins, emptied-length p.cells p.nodes after_third.bins) third-fit;
        in-compute = phase-counts after_fourth in_compute (omega arith) fourth-phase;
        bins-empty = λ j l. rw fourth-bins (emptied-empty p.cells p.nodes after_third.bins j l third-fit);
      }

  -- ---- all its calls

  finally-is : card_finally p k (four_calls p f) ≡ after_fourth
  finally-is =
      ap (card_finally p k) (calls_are p f)
      ∙ finally-append p (stretch_calls p f.first) (stretch_calls p f.second ++ (stretch_calls p f.third ++ stretch_calls p f.fourth)) k
      ∙ finally-append p (stretch_calls p f.second) (stretch_calls p f.third ++ stretch_calls p f.fourth) after_first
      ∙ finally-append p (stretch_calls p f.third) (stretch_calls p f.fourth) after_second

  abbrev given : List (List ℕ)
  given = fill (setpoint p (frame_on p k.state.memory f)) p.actuators f.fourth.place ∷ []

  first-places : places_left p k (stretch_calls p f.first) ≡ places_lent p (stretch_calls p f.first)
  first-places = stretch-places p f.first k start.bins-fit (phase-apart in_compute in_sync start.in-compute (omega arith))

  second-places : places_left p after_first (stretch_calls p f.second) ≡ places_lent p (stretch_calls p f.second)
  second-places = stretch-places p f.second after_first first-fit (phase-apart in_broadcast in_sync first-phase (omega arith))

  third-places : places_left p after_second (stretch_calls p f.third) ≡ places_lent p (stretch_calls p f.third)
  third-places = stretch-places p f.third after_second second-fit (phase-apart in_vote in_sync second-phase (omega arith))

  fourth-places : places_left p after_third (stretch_calls p f.fourth) ≡ places_lent p f.fourth.earlier ++ given
  fourth-places =
      stretch-setpoints p f.fourth after_third third-fit third-phase
      ∙ ap (λ (m : Memory). places_lent p f.fourth.earlier ++ (fill (setpoint p m) p.actuators f.fourth.place ∷ []))
      third-memory

  lent-are :
      places_lent p (calls_before p f)
      ≡ places_lent p (stretch_calls p f.first)
      ++ (places_lent p (stretch_calls p f.second) ++ (places_lent p (stretch_calls p f.third) ++ places_lent p f.fourth.earlier))
  unfolding calls_before
  lent-are =
      lent-append p (stretch_calls p f.first) (stretch_calls p f.second ++ (stretch_calls p f.third ++ f.fourth.earlier))
      ∙ ap (λ (x : List (List ℕ)). places_lent p (stretch_calls p f.first) ++ x)
      (lent-append p (stretch_calls p f.second) (stretch_calls p f.third ++ f.fourth.earlier)
      ∙ ap (λ (x : List (List ℕ)). places_lent p (stretch_calls p f.second) ++ x) (lent-append p (stretch_calls p f.third) f.fourth.earlier))

  places-left : places_left p k (four_calls p f) ≡ frame_places p k.state.memory f
  unfolding frame_places
  places-left =
      ap (places_left p k) (calls_are p f)
      ∙ left-append p (stretch_calls p f.first) (stretch_calls p f.second ++ (stretch_calls p f.third ++ stretch_calls p f.fourth)) k
      ∙ ap₂ ◌++◌ first-places
      (left-append p (stretch_calls p f.second) (stretch_calls p f.third ++ stretch_calls p f.fourth) after_first
      ∙ ap₂ ◌++◌ second-places
      (left-append p (stretch_calls p f.third) (stretch_calls p f.fourth) after_second ∙ ap₂ ◌++◌ third-places fourth-places))
      ∙ sym (ap (λ (x : List (List ℕ)). x ++ given) lent-are ∙ simp append_assoc)

  frame-done : FrameDone p k f
  frame-done =
      record {
        memory-is = ap (λ (x : CardParts). x.state.memory) finally-is ∙ fourth-memory ∙ third-memory;
        places-are = places-left;
        phase-is = ap (λ (x : CardParts). x.state.phase) finally-is ∙ fourth-phase;
        again = subst (AtCompute p) (sym finally-is) fourth-start;
      }

pub card-frame : CardFrame
card-frame p k start f = frame-done p k start f

-- ---- frames one after another

module _ (p : Plan) where
  frames-none : (k : CardParts) → AtCompute p k → FramesDone p k []
  unfolding frames_calls frames_on frames_places card_finally places_left
  frames-none k start = record { memories-are = refl; all-places = refl; at-the-end = start }

  -- a frame, then the others
  frames-next :
      (k : CardParts) (f : FourTicks p) (fs : List (FourTicks p)) →
      FrameDone p k f → FramesDone p (card_finally p k (four_calls p f)) fs → FramesDone p k (f ∷ fs)
  unfolding frames_calls frames_on frames_places
  frames-next k f fs done rest =
      let all : card_finally p k (four_calls p f ++ frames_calls p fs) ≡ card_finally p (card_finally p k (four_calls p f)) (frames_calls p fs) =
      finally-append p (four_calls p f) (frames_calls p fs) k in
      record {
        memories-are = ap (λ (x : CardParts). x.state.memory) all ∙ rest.memories-are ∙ ap (λ (m : Memory). frames_on p m fs) done.memory-is;
        all-places =
            left-append p (four_calls p f) (frames_calls p fs) k
            ∙ ap₂ ◌++◌ done.places-are (rest.all-places ∙ ap (λ (m : Memory). frames_places p m fs) done.memory-is);
        at-the-end = subst (AtCompute p) (sym all) rest.at-the-end;
      }

  frames-done-on : (fs : List (FourTicks p)) (k : CardParts) → AtCompute p k → FramesDone p k fs
  frames-done-on [] k start = frames-none k start
  frames-done-on (f ∷ fs) k start =
      let done : FrameDone p k f = card-frame p k start f in
      frames-next k f fs done (frames-done-on fs (card_finally p k (four_calls p f)) done.again)

pub card-frames : CardFrames
card-frames p k start fs = frames-done-on p fs k start

-- ---- the press's card

parts-back : (k : CardParts) → parts_of (card_of k) ≡ k
unfolding parts_of card_of
parts-back k = refl

module _ (p : Plan) where
  left-parts : (k : Card) (c : CardCall) → parts_of (card_left p k c) ≡ card_after p (parts_of k) c
  unfolding card_left
  left-parts k c = parts-back (card_after p (parts_of k) c)

  called-parts : (cs : List CardCall) (k : Card) → parts_of (cards_called p k cs) ≡ card_finally p (parts_of k) cs
  unfolding cards_called card_finally
  called-parts [] k = refl
  called-parts (c ∷ cs) k = called-parts cs (card_left p k c) ∙ ap (λ (x : CardParts). card_finally p x cs) (left-parts k c)

  module _ (a : accepted p ≡ true) where
    press-fit : (bins : List ℕ) → length bins ≡ most_bins → p.nodes * slot_size p.cells ≤ length bins
    press-fit bins e = rw e (most-bins (shape-of-accepted p a).nodes-high (shape-of-accepted p a).cells-le)

    powered-given : card_power_on p ≡ Ok (powered_card p)
    unfolding card_power_on plan_tests
    powered-given = given-later _ [] (powered_card p) a ∙ given-none (powered_card p)

    powered-is : powered_card p ≡ card_of (record { state = powered_state p; bins = replicate most_bins 0 })
    unfolding powered_card
    powered-is = refl

    powered-start : AtCompute p (record { state = powered_state p; bins = replicate most_bins 0 })
    unfolding powered_state phase_of
    powered-start =
        record {
          bins-fit = press-fit (replicate most_bins 0) (length-replicate {A = ℕ} most_bins 0);
          in-compute = refl;
          bins-empty = λ j l. zeros-empty p.cells most_bins j;
        }

    powered-memory : (card_of (record { state = powered_state p; bins = replicate most_bins 0 })).memory ≡ powered_on p
    unfolding card_of powered_state
    powered-memory = refl

pub press-cards : PressCards
unfolding parts_of
press-cards p a k e = (press-fit p a k.bins e, record { by_parts = λ cs. called-parts p cs k; frames-done = card-frames p (parts_of k) })

pub press-card-on : PressCardOn
press-card-on p a = (
  powered-given p a,
  subst (AtCompute p) (sym (ap parts_of (powered-is p a) ∙ parts-back (record { state = powered_state p; bins = replicate most_bins 0 }))) (powered-start p a),
  ap (λ (x : Card). x.memory) (powered-is p a) ∙ powered-memory p a,
)

-- ---- a good node of a system

module _ (p : Plan) (sys : System) (mask : ℕ) (faults : List ℕ) (i : ℕ) (good : bad mask i ≡ false) (f : FourTicks p) where
  good-memory :
      mailbox_delivered p f.second.earlier ≡ mailbox_of p sys f.first.sensors mask faults i →
      frame_on p (memory_of sys i) f ≡ memory_after p sys f.first.sensors mask faults i
  unfolding frame_on memory_after computed_by
  good-memory same = rw (good, same)

  good-puts : (a : ℕ) → Some (setpoint p (memory_after p sys f.first.sensors mask faults i) a) ≡ put_out p sys f.first.sensors mask faults a i
  unfolding put_out
  good-puts a = rw good

pub card-of-good-node : CardOfGoodNode
card-of-good-node p sys mask faults i good f same =
    let m : frame_on p (memory_of sys i) f ≡ memory_after p sys f.first.sensors mask faults i = good-memory p sys mask faults i good f same in (
      m,
      λ a. ap (λ (x : Memory). Some (setpoint p x a)) m ∙ good-puts p sys mask faults i good f a,
    )
