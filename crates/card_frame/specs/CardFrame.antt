-- Request 2026-07: "Four ticks not refused from compute with all bins empty, every call with one plan and the card that the one before left, must give that node's frame for
-- the sensors of the first and the bins delivered, for every mask and clear the host wrote."
use Rattle.std.specs.Prelude.{◌≡◌, Bool, true, false, not, cond, ◌&&◌, List, [], ◌∷◌, ◌++◌, ℕ, ◌+◌, ◌*◌, ◌<◌, eqb, length, Option, None, Some, Ok}
use Rattle.array.specs.Index.{fill, joined}
use Rattle.answer.specs.Tests.{passed}
use Rattle.plan.specs.declared.Plan.{Plan}
use Rattle.plan.specs.Accepted.{accepted}
use Rattle.memory.specs.declared.Memory.{Memory}
use Rattle.memory.specs.Node.{powered_on, computed, voted, setpoint, bin_of, not_sent}
use Rattle.system.specs.declared.System.{System}
use Rattle.system.specs.Fault.{bad}
use Rattle.system.specs.Frame.{memory_of, mailbox_of, memory_after, put_out}
use Rattle.card_page.specs.Page.{phase_of}
use Rattle.card_bins.specs.Bins.{is_filled}
use Rattle.card_step.specs.CardParts.{CardParts, BinsFit, in_compute}
use Rattle.card.specs.declared.Card.{Card}
use Rattle.card.specs.Card.{most_bins, parts_of, powered_card, card_power_on, card_left}
use Rattle.card_step.specs.Calls.{CardCall, reading, writing, delivery, ticking, card_tests, card_after, place_left}

-- ---- a list of calls on one card, all with one plan, each on the card that the one before left

module _ (p : Plan) where
  unfoldable pub card_finally : CardParts → List CardCall → CardParts
  card_finally k [] = k
  card_finally k (c ∷ cs) = card_finally (card_after p k c) cs

  -- the places of its ticks, as they are lent and as they are left
  unfoldable pub lent_by : CardCall → List (List ℕ)
  lent_by (reading at) = []
  lent_by (writing at value) = []
  lent_by (delivery number message) = []
  lent_by (ticking sensors place) = place ∷ []

  unfoldable pub left_by : CardParts → CardCall → List (List ℕ)
  left_by k (reading at) = []
  left_by k (writing at value) = []
  left_by k (delivery number message) = []
  left_by k (ticking sensors place) = place_left p k sensors place ∷ []

  unfoldable pub places_lent : List CardCall → List (List ℕ)
  places_lent [] = []
  places_lent (c ∷ cs) = lent_by c ++ places_lent cs

  unfoldable pub places_left : CardParts → List CardCall → List (List ℕ)
  places_left k [] = []
  places_left k (c ∷ cs) = left_by k c ++ places_left (card_after p k c) cs

  -- a tick that is not refused
  unfoldable pub moves : CardCall → Bool
  moves (reading at) = false
  moves (writing at value) = false
  moves (delivery number message) = false
  moves (ticking sensors place) = passed (card_tests p (ticking sensors place))

  unfoldable pub none_moves : List CardCall → Bool
  none_moves [] = true
  none_moves (c ∷ cs) = not (moves c) && none_moves cs

  -- what bin j holds after a call and after a list of them, where it held this before; a refused delivery delivers nothing
  unfoldable pub delivered_by : ℕ → CardCall → Option (List ℕ) → Option (List ℕ)
  delivered_by j (reading at) held = held
  delivered_by j (writing at value) held = held
  delivered_by j (delivery number message) held = cond (eqb number j && passed (card_tests p (delivery number message))) (Some message) held
  delivered_by j (ticking sensors place) held = held

  unfoldable pub last_delivered : ℕ → List CardCall → Option (List ℕ) → Option (List ℕ)
  last_delivered j [] held = held
  last_delivered j (c ∷ cs) held = last_delivered j cs (delivered_by j c held)

  -- "A bin still empty counts as not sent."
  unfoldable pub bin_holding : Option (List ℕ) → List ℕ
  bin_holding None = not_sent p.cells
  bin_holding (Some message) = bin_of message

  -- the mailbox of the bins that these calls deliver
  unfoldable pub mailbox_delivered : List CardCall → List ℕ
  mailbox_delivered cs = joined (λ j. bin_holding (last_delivered j cs None)) p.nodes

  -- calls up to a tick that is not refused, the only one of them
  pub record Stretch : Type 0 where
    pub earlier : List CardCall
    pub no-tick : none_moves earlier ≡ true
    pub sensors : List ℕ
    pub place : List ℕ
    pub not-refused : moves (ticking sensors place) ≡ true

  abbrev pub last_call : Stretch → CardCall
  last_call t = ticking t.sensors t.place

  abbrev pub stretch_calls : Stretch → List CardCall
  stretch_calls t = t.earlier ++ (last_call t ∷ [])

  -- a list with four ticks that are not refused, the fourth its last call
  pub record FourTicks : Type 0 where
    pub first : Stretch
    pub second : Stretch
    pub third : Stretch
    pub fourth : Stretch

  -- its calls but the last, and all of them
  unfoldable pub calls_before : FourTicks → List CardCall
  calls_before f = stretch_calls f.first ++ (stretch_calls f.second ++ (stretch_calls f.third ++ f.fourth.earlier))

  unfoldable pub four_calls : FourTicks → List CardCall
  four_calls f = calls_before f ++ (last_call f.fourth ∷ [])

  -- how many ticks of a list are not refused
  unfoldable pub ticks_in : List CardCall → ℕ
  ticks_in [] = 0
  ticks_in (c ∷ cs) = cond (moves c) 1 0 + ticks_in cs

-- every list with three ticks that are not refused, and a fourth as its last call, is such a list
abbrev pub EveryFour : Type 0
EveryFour =
    (p : Plan) (cs : List CardCall) (sensors place : List ℕ) →
    ticks_in p cs ≡ 3 →
    moves p (ticking sensors place) ≡ true →
    (f : FourTicks p) × (four_calls p f ≡ cs ++ (ticking sensors place ∷ []))

-- ---- the frame

-- "from compute with all bins empty"
pub record AtCompute (p : Plan) (k : CardParts) : Type 0 where
  pub bins-fit : BinsFit p k
  pub in-compute : phase_of k.state ≡ in_compute
  pub bins-empty : (j : ℕ) → j < p.nodes → is_filled p.cells k.bins j ≡ false

-- "that node's frame for the sensors of the first and the bins delivered": those delivered between the first and the second
unfoldable pub frame_on : (p : Plan) → Memory → FourTicks p → Memory
frame_on p m f = voted p (computed p f.first.sensors m) (mailbox_delivered p f.second.earlier)

-- the places of its ticks afterwards
unfoldable pub frame_places : (p : Plan) → Memory → FourTicks p → List (List ℕ)
frame_places p m f = places_lent p (calls_before p f) ++ (fill (setpoint p (frame_on p m f)) p.actuators f.fourth.place ∷ [])

pub record FrameDone (p : Plan) (k : CardParts) (f : FourTicks p) : Type 0 where
  pub memory-is : (card_finally p k (four_calls p f)).state.memory ≡ frame_on p k.state.memory f
  -- the fourth's place has the setpoints of that memory, every other place is as it was
  pub places-are : places_left p k (four_calls p f) ≡ frame_places p k.state.memory f
  pub phase-is : (card_finally p k (four_calls p f)).state.phase ≡ 0
  pub again : AtCompute p (card_finally p k (four_calls p f))

-- for every plan record: with one that 7 refuses every tick is refused, so there are no four
abbrev pub CardFrame : Type 0
CardFrame = (p : Plan) (k : CardParts) → AtCompute p k → (f : FourTicks p) → FrameDone p k f

-- ---- frames one after another

unfoldable pub frames_calls : (p : Plan) → List (FourTicks p) → List CardCall
frames_calls p [] = []
frames_calls p (f ∷ fs) = four_calls p f ++ frames_calls p fs

unfoldable pub frames_on : (p : Plan) → Memory → List (FourTicks p) → Memory
frames_on p m [] = m
frames_on p m (f ∷ fs) = frames_on p (frame_on p m f) fs

unfoldable pub frames_places : (p : Plan) → Memory → List (FourTicks p) → List (List ℕ)
frames_places p m [] = []
frames_places p m (f ∷ fs) = frame_places p m f ++ frames_places p (frame_on p m f) fs

pub record FramesDone (p : Plan) (k : CardParts) (fs : List (FourTicks p)) : Type 0 where
  pub memories-are : (card_finally p k (frames_calls p fs)).state.memory ≡ frames_on p k.state.memory fs
  pub all-places : places_left p k (frames_calls p fs) ≡ frames_places p k.state.memory fs
  pub at-the-end : AtCompute p (card_finally p k (frames_calls p fs))

abbrev pub CardFrames : Type 0
CardFrames = (p : Plan) (k : CardParts) → AtCompute p k → (fs : List (FourTicks p)) → FramesDone p k fs

-- every list with 4f ticks that are not refused, the last of them its last call, is one of f frames
abbrev pub EveryFrames : Type 0
EveryFrames =
    (p : Plan) (n : ℕ) (cs : List CardCall) (sensors place : List ℕ) →
    ticks_in p cs ≡ 4 * n + 3 →
    moves p (ticking sensors place) ≡ true →
    (fs : List (FourTicks p)) × (length fs ≡ n + 1) × (frames_calls p fs ≡ cs ++ (ticking sensors place ∷ []))

-- ---- the press's card: its calls, each on the card that the one before left, and from power-on

unfoldable pub cards_called : Plan → Card → List CardCall → Card
cards_called p k [] = k
cards_called p k (c ∷ cs) = cards_called p (card_left p k c) cs

-- what the calls leave is what the parts become
pub record PressCard (p : Plan) (k : Card) : Type 0 where
  pub by_parts : (cs : List CardCall) → parts_of (cards_called p k cs) ≡ card_finally p (parts_of k) cs
  pub frames-done : AtCompute p (parts_of k) → (fs : List (FourTicks p)) → FramesDone p (parts_of k) fs

-- every `Card` has `most_bins` bytes of bins, which are enough for every accepted plan
abbrev pub PressCards : Type 0
PressCards = (p : Plan) → accepted p ≡ true → (k : Card) → length k.bins ≡ most_bins → BinsFit p (parts_of k) × PressCard p k

-- at power-on it is in compute, with all bins empty, and has the node's memory
abbrev pub PressCardOn : Type 0
PressCardOn = (p : Plan) → accepted p ≡ true → (card_power_on p ≡ Ok (powered_card p)) × AtCompute p (parts_of (powered_card p)) × ((powered_card p).memory ≡ powered_on p)

-- ---- a good node of a system: with the bins that it hears there, the card has the node's memory after the frame, and gives what the node puts out

abbrev pub CardOfGoodNode : Type 0
CardOfGoodNode =
    (p : Plan) (sys : System) (mask : ℕ) (faults : List ℕ) (i : ℕ) →
    bad mask i ≡ false →
    (f : FourTicks p) →
    mailbox_delivered p f.second.earlier ≡ mailbox_of p sys f.first.sensors mask faults i →
    (frame_on p (memory_of sys i) f ≡ memory_after p sys f.first.sensors mask faults i)
    × ((a : ℕ) → Some (setpoint p (frame_on p (memory_of sys i) f) a) ≡ put_out p sys f.first.sensors mask faults a i)
