-- Demand 3 holds.
use Rattle.std.specs.Prelude.{Option}
use mathlib.Core.Path.{◌≡◌, refl, sym, ap, ap₂, ◌∙◌}
use mathlib.Core.Bool.{Bool, true, false, cond, and-true}
use mathlib.Core.List.{List, [], ◌∷◌, ◌++◌, append_assoc}
use mathlib.Core.Logic.{◌⊎◌, ⊎_elim}
use Prim.Native.Nat.{ℕ, ◌%◌, ◌^◌, ◌<◌}
use native.Mathlib.Nat.{zero-mod, mod-lt}
use lib.Dec.{eqb}
use lib.ListN.{length}
use borrow.Author.Tests.{ltb-true, eqb-true}
use Rattle.array.specs.Index.{all_in}
use Rattle.array.proofs.TestLaws.{split, clash, and_left, and_right}
use Rattle.array.proofs.BitLaws.{bit-none}
use Rattle.std.specs.Result.{result_err}
use Rattle.answer.specs.declared.Refusal.{Refusal}
use Rattle.answer.specs.Tests.{passed, refused, if_passed}
use Rattle.answer.proofs.TestLaws.{given-err}
use Rattle.plan.specs.declared.Plan.{Plan}
use Rattle.plan.specs.Known.{known, period}
use Rattle.plan.specs.Accepted.{accepted}
use Rattle.plan.proofs.AcceptedLaws.{shape-of-accepted}
use Rattle.memory.specs.declared.Memory.{Memory}
use Rattle.memory.specs.Node.{powered_on, computed}
use Rattle.memory.proofs.NodeLaws.{powered_on-counter}
use Rattle.system.specs.declared.System.{System}
use Rattle.system.specs.System.{power_on}
use Rattle.system.specs.Fault.{bad}
use Rattle.system.specs.Counts.{good_count}
use Rattle.system.specs.Frame.{memory_of, good_of, system_after, frame_agreement}
use Rattle.system.specs.Single.{single_place}
use Rattle.system.specs.FrameCall.{mask_ok, counts_ok, frame_tests, frame_answer, frame_system, frame_place}
use Rattle.system.specs.Demand.{Call, call_lengths, call_tests, call_answer, is_frame, next, answers, places, finally, single_next, single_places, single_finally, call_answers, masks, good_in, MostGood, Premise, OnePlan, Demand3}
use Rattle.system.proofs.CountLaws.{Counts, counts_start, counts-ok, counts-after}
use Rattle.system.proofs.StateLaws.{State, state-start, state-whole, state-after, counter-after, place_after_lem, Trusted, state-trusted}

-- ---- one call

-- the masks of the frames so far, with this call's if it is a frame
abbrev pub since : Call → List ℕ → List ℕ
since c past = cond (is_frame c) (c.mask ∷ past) past

-- what the call leaves in its place beside the single controller's memory after it
abbrev single_puts : Memory → Call → List ℕ
single_puts s c = cond (is_frame c) (single_place c.plan (single_next s c) c.place) c.place

module _ (sys : System) (c : Call) where
  abbrev runs : Bool
  runs = passed (frame_tests c.plan sys c.sensors c.mask c.faults c.place)

  -- where no good count is above R, the tests are those of plan record, mask and lengths
  module _ (counts : accepted c.plan ≡ true → counts_ok c.plan sys ≡ true) where
    pub runs-frame : runs ≡ is_frame c
    unfolding passed frame_tests is_frame call_tests call_lengths
    runs-frame = split (accepted c.plan) (λ e. rw (counts e, and-true (mask_ok c.plan c.mask))) (λ e. rw e)

    refused-alike : refused (frame_tests c.plan sys c.sensors c.mask c.faults c.place) ≡ call_answer c
    unfolding refused frame_tests call_answer call_tests call_lengths
    refused-alike = split (accepted c.plan) (λ e. rw (counts e, and-true (mask_ok c.plan c.mask))) (λ e. rw e)

    answer-frame : result_err (frame_answer c.plan sys c.sensors c.mask c.faults c.place) ≡ call_answer c
    unfolding frame_answer
    answer-frame =
        given-err (frame_tests c.plan sys c.sensors c.mask c.faults c.place) (frame_agreement c.plan sys c.sensors c.mask c.faults) ∙ refused-alike

-- the plan of a call that is not refused with 7 is p
accepted-is : {p : Plan} (c : Call) → (c.plan ≡ p) ⊎ (accepted c.plan ≡ false) → accepted c.plan ≡ true → c.plan ≡ p
accepted-is c plan e = ⊎_elim (λ q. q) (λ f. absurd (clash e f)) plan

pub frame_is : {p : Plan} (c : Call) → (c.plan ≡ p) ⊎ (accepted c.plan ≡ false) → is_frame c ≡ true → c.plan ≡ p
unfolding passed is_frame call_tests
frame_is c plan e = accepted-is c plan (and_left _ _ e)

-- the single controller computes in a frame, and the press runs it where no good count is above R; any other call leaves both
module _ (p : Plan) (c : Call) (plan : (c.plan ≡ p) ⊎ (accepted c.plan ≡ false)) where
  pub single-frame : is_frame c ≡ true → (s : Memory) → single_next s c ≡ computed p c.sensors s
  unfolding single_next
  single-frame e s = rw (e, frame_is c plan e)

  pub single-refused : is_frame c ≡ false → (s : Memory) → single_next s c ≡ s
  unfolding single_next
  single-refused e s = rw e

  module _ (sys : System) (past : List ℕ) (h : Counts p sys past) where
    counts : accepted c.plan ≡ true → counts_ok c.plan sys ≡ true
    counts e = rw (accepted-is c plan e) (counts-ok p sys past h)

    pub next-frame : is_frame c ≡ true → next sys c ≡ system_after p sys c.sensors c.mask c.faults
    unfolding if_passed next frame_system
    next-frame e = rw (runs-frame sys c counts, e, frame_is c plan e)

    pub next-refused : is_frame c ≡ false → next sys c ≡ sys
    unfolding if_passed next frame_system
    next-refused e = rw (runs-frame sys c counts, e)

record Called (p : Plan) (sys : System) (s : Memory) (past : List ℕ) (c : Call) : Type 0 where
  state : State p (next sys c) (single_next s c) (since c past)
  place : frame_place c.plan sys c.sensors c.mask c.faults c.place ≡ single_puts s c
  answer : result_err (frame_answer c.plan sys c.sensors c.mask c.faults c.place) ≡ call_answer c

call :
    (p : Plan) → accepted p ≡ true → (sys : System) (s : Memory) (past : List ℕ) (c : Call) →
    State p sys s past →
    (c.plan ≡ p) ⊎ (accepted c.plan ≡ false) →
    (is_frame c ≡ true → MostGood p c.mask past) →
    Called p sys s past c
unfolding if_passed next single_next frame_system frame_place
call p accept sys s past c st plan most = split (is_frame c) frame refused
  where
    counts : accepted c.plan ≡ true → counts_ok c.plan sys ≡ true
    counts e = rw (accepted-is c plan e) (counts-ok p sys past st.counts)

    frame : is_frame c ≡ true → Called p sys s past c
    frame e =
        let q : c.plan ≡ p = frame_is c plan e in
        record {
          state = rw (runs-frame sys c counts, e, q) (state-after p accept sys s past st c.sensors c.mask c.faults c.patterns (most e));
          place = rw (runs-frame sys c counts, e, q) (place_after_lem p accept sys s past st c.sensors c.mask c.faults c.patterns (most e) c.place);
          answer = answer-frame sys c counts;
        }

    -- refused with 7, 9 or 8: everything stays
    refused : is_frame c ≡ false → Called p sys s past c
    refused e =
        record {
          state = rw (runs-frame sys c counts, e) st;
          place = rw (runs-frame sys c counts, e);
          answer = answer-frame sys c counts;
        }

-- ---- the list

-- from a state between two calls
record Listed (p : Plan) (sys : System) (s : Memory) (past : List ℕ) (cs : List Call) : Type 0 where
  setpoints : places sys cs ≡ single_places s cs
  refusals : answers sys cs ≡ call_answers cs
  state : State p (finally sys cs) (single_finally s cs) (masks cs past)

more :
    (p : Plan) (sys : System) (s : Memory) (past : List ℕ) (c : Call) (cs : List Call) →
    Called p sys s past c →
    Listed p (next sys c) (single_next s c) (since c past) cs →
    Listed p sys s past (c ∷ cs)
unfolding places single_places answers call_answers finally single_finally masks
more p sys s past c cs here rest =
    record {
      setpoints = ap₂ (λ (x : List ℕ) (l : List (List ℕ)). x ∷ l) here.place rest.setpoints;
      refusals = ap₂ (λ (x : Option Refusal) (l : List (Option Refusal)). x ∷ l) here.answer rest.refusals;
      state = rest.state;
    }

listed :
    (p : Plan) → accepted p ≡ true → (cs : List Call) (sys : System) (s : Memory) (past : List ℕ) →
    State p sys s past →
    OnePlan p cs →
    Premise p cs past →
    Listed p sys s past cs
unfolding OnePlan Premise places single_places answers call_answers finally single_finally masks
listed p accept [] sys s past st one most = record { setpoints = refl; refusals = refl; state = st }
listed p accept (c ∷ cs) sys s past st one most =
    let here : Called p sys s past c = call p accept sys s past c st one.0 most.0 in
    more p sys s past c cs here
    (listed p accept cs (next sys c) (single_next s c) (since c past) here.state one.1 most.1)

from_start : (p : Plan) → accepted p ≡ true → (cs : List Call) → OnePlan p cs → Premise p cs [] → Listed p (power_on p) (powered_on p) [] cs
from_start p accept cs one most = listed p accept cs (power_on p) (powered_on p) [] (state-start p accept) one most

-- what holds after the list
pub state-finally :
    (p : Plan) → accepted p ≡ true → (cs : List Call) → OnePlan p cs → Premise p cs [] →
    State p (finally (power_on p) cs) (single_finally (powered_on p) cs) (masks cs [])
state-finally p accept cs one most = (from_start p accept cs one most).state

pub demand3 : Demand3
demand3 p accept cs one most =
    let r : Listed p (power_on p) (powered_on p) [] cs = from_start p accept cs one most in
    record { setpoints = r.setpoints; refusals = r.refusals; memories = state-whole p _ _ _ r.state }

-- ---- the good counts after the list, whoever was good

module _ (p : Plan) where
  counts-next :
      (c : Call) → (c.plan ≡ p) ⊎ (accepted c.plan ≡ false) → (sys : System) (past : List ℕ) →
      Counts p sys past →
      Counts p (next sys c) (since c past)
  counts-next c plan sys past h =
      split (is_frame c)
      (λ e. rw (next-frame p c plan sys past h e, e) (counts-after p sys past h c.sensors c.mask c.faults))
      (λ e. rw (next-refused p c plan sys past h e, e) h)

  counts-finally : (cs : List Call) → OnePlan p cs → (sys : System) (past : List ℕ) → Counts p sys past → Counts p (finally sys cs) (masks cs past)
  unfolding OnePlan finally masks
  counts-finally [] one sys past h = h
  counts-finally (c ∷ cs) one sys past h = counts-finally cs one.1 (next sys c) (since c past) (counts-next c one.0 sys past h)

  -- they are what the masks of its frames give
  pub good-finally :
      accepted p ≡ true → (cs : List Call) → OnePlan p cs →
      (i : ℕ) → i < p.nodes → good_of (finally (power_on p) cs) i ≡ good_count (period p) (masks cs []) i
  good-finally accept cs one = (counts-finally cs one (power_on p) [] (counts_start p accept)).count

-- ---- request 2026-12: a node that was good in the last frames, at least one, and bad in the one before

-- over the masks of the list's frames, the newest first; its first good frame is the plan's frame of its number modulo F
pub half-recovered-masks :
    (p : Plan) → accepted p ≡ true → (cs : List Call) → OnePlan p cs → Premise p cs [] →
    (recent : List ℕ) (mask : ℕ) (past : List ℕ) →
    masks cs [] ≡ recent ++ (mask ∷ past) →
    (i : ℕ) → i < p.nodes →
    bad mask i ≡ true →
    good_in i recent ≡ true →
    0 < length recent →
    Trusted (known p (length (mask ∷ past) % p.frames) (length recent)) (memory_of (finally (power_on p) cs) i) (single_finally (powered_on p) cs)
half-recovered-masks p accept cs one most recent mask past e i l fault good some =
    state-trusted p _ _ recent mask past (rw e at (state-finally p accept cs one most)) i l good some fault

masks-append : (a b : List Call) (past : List ℕ) → masks (a ++ b) past ≡ masks b (masks a past)
unfolding masks
masks-append [] b past = refl
masks-append (c ∷ a) b past = masks-append a b (since c past)

masks-past : (cs : List Call) (past : List ℕ) → masks cs past ≡ masks cs [] ++ past
unfolding masks
masks-past [] past = refl
masks-past (c ∷ cs) past =
    masks-past cs (since c past)
    ∙ ap (λ (l : List ℕ). masks cs [] ++ l) (split (is_frame c) (λ e. rw e) (λ e. rw e))
    ∙ sym (append_assoc (masks cs []) (since c []) past)
    ∙ ap (λ (l : List ℕ). l ++ past) (sym (masks-past cs (since c [])))

pub one_left : (p : Plan) (a b : List Call) → OnePlan p (a ++ b) → OnePlan p a
unfolding OnePlan
one_left p [] b one = tt
one_left p (c ∷ a) b one = (one.0, one_left p a b one.1)

pub one_right : (p : Plan) (a b : List Call) → OnePlan p (a ++ b) → OnePlan p b
unfolding OnePlan
one_right p [] b one = one
one_right p (c ∷ a) b one = one_right p a b one.1

-- the single's counter is the number of frames, modulo F, whoever was good
module _ (p : Plan) (pos : 0 < p.frames) where
  single_step :
      (c : Call) → (c.plan ≡ p) ⊎ (accepted c.plan ≡ false) → (s : Memory) (past : List ℕ) →
      s.counter ≡ length past % p.frames →
      (single_next s c).counter ≡ length (since c past) % p.frames
  single_step c plan s past e =
      split (is_frame c)
      (λ f. rw (single-frame p c plan f s, f) (counter-after p c.sensors s c.mask past (rw e (mod-lt (length past) pos)) e))
      (λ f. rw (single-refused p c plan f s, f) e)

  single-counter :
      (cs : List Call) → OnePlan p cs → (s : Memory) (past : List ℕ) →
      s.counter ≡ length past % p.frames →
      (single_finally s cs).counter ≡ length (masks cs past) % p.frames
  unfolding OnePlan single_finally masks
  single-counter [] one s past e = e
  single-counter (c ∷ cs) one s past e = single-counter cs one.1 (single_next s c) (since c past) (single_step c one.0 s past e)

-- over the calls: the node was bad in the last frame of `earlier` and good in every frame of `later`, at least one; the single ran its first good
-- frame with the counter that it had after `earlier`
pub half-recovered :
    (p : Plan) → accepted p ≡ true → (earlier later : List Call) → OnePlan p (earlier ++ later) → Premise p (earlier ++ later) [] →
    (i : ℕ) → i < p.nodes →
    (mask : ℕ) (past : List ℕ) →
    masks earlier [] ≡ mask ∷ past →
    bad mask i ≡ true →
    good_in i (masks later []) ≡ true →
    0 < length (masks later []) →
    Trusted (known p (single_finally (powered_on p) earlier).counter (length (masks later [])))
    (memory_of (finally (power_on p) (earlier ++ later)) i)
    (single_finally (powered_on p) (earlier ++ later))
half-recovered p accept earlier later one most i l mask past e fault good some =
    rw (first, e)
    (half-recovered-masks p accept (earlier ++ later) one most (masks later []) mask past
    (masks-append earlier later [] ∙ masks-past later (masks earlier []) ∙ rw e)
    i l fault good some)
  where
    first : (single_finally (powered_on p) earlier).counter ≡ length (masks earlier []) % p.frames
    first =
        single-counter p (shape-of-accepted p accept).frames-pos earlier (one_left p earlier later one) (powered_on p) []
        (powered_on-counter p ∙ sym (zero-mod p.frames))

-- ---- masks

-- where all masks are 0, every node is good
pub zero-good : (i : ℕ) (l : List ℕ) → all_in (λ mask. eqb mask 0) l ≡ true → good_in i l ≡ true
unfolding good_in all_in
zero-good i [] h = refl
zero-good i (mask ∷ l) h =
    let z : mask ≡ 0 = eqb-true mask 0 (and_left (eqb mask 0) (all_in (λ m. eqb m 0) l) h) in
    rw (z, bit-none i) (zero-good i l (and_right (eqb mask 0) _ h))

-- a frame's mask names nodes of the plan alone
pub mask_below : (p : Plan) (c : Call) → (c.plan ≡ p) ⊎ (accepted c.plan ≡ false) → is_frame c ≡ true → c.mask < 2 ^ p.nodes
unfolding passed is_frame call_tests mask_ok
mask_below p c plan e = rw (frame_is c plan e) at (ltb-true c.mask (2 ^ c.plan.nodes) (and_left _ _ (and_right (accepted c.plan) _ e)))
