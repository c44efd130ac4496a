-- A list of frame calls meets demand 3's premise exactly if its history is listed.
use mathlib.Core.Path.{◌≡◌, refl}
use mathlib.Core.Bool.{true}
use mathlib.Core.Logic.{inl}
use mathlib.Core.List.{List, [], ◌∷◌, map, reverse_aux}
use Prim.Native.Nat.{ℕ, zero, suc, ◌*◌, ◌^◌, ◌<◌}
use native.Mathlib.Omega.{arith}
use lib.Dec.{eqb, ltb, lit<}
use lib.ListN.{length, get_or, take, replicate, length-replicate}
use borrow.Author.Tests.{eq-eqb, lt-ltb, ltb-true}
use Rattle.array.specs.Index.{how_many, all_in}
use Rattle.array.proofs.TestLaws.{split, clash, and_left, and_right, and_both}
use Rattle.array.proofs.IndexLaws.{how_many-same}
use Rattle.answer.specs.Tests.{passed}
use Rattle.plan.specs.declared.Plan.{Plan}
use Rattle.plan.specs.Known.{period}
use Rattle.plan.specs.Accepted.{accepted}
use Rattle.plan.specs.Sizes.{sizes_of}
use Rattle.system.specs.Fault.{faults_size}
use Rattle.system.specs.Counts.{is_working}
use Rattle.system.specs.FrameCall.{mask_ok, lengths_ok}
use Rattle.system.specs.Demand.{Call, masks, call_lengths, call_tests, is_frame, good_in, MostGood, Premise, OnePlan}
use Rattle.system.proofs.DemandLaws.{good-finally, demand3, mask_below}
use Rattle.history_masks.specs.Histories.{works_after, most_work, lived}
use Rattle.history.specs.Answers.{plan_histories}
use Rattle.history.specs.Listed.{history_of, SameWorking, PremiseListed, LivedThrough, SomeCalls}
use Rattle.history_masks.proofs.HistoryLaws.{works-good}
use Rattle.history.proofs.ListedLaws.{exactly}

-- ---- demand 3's premise, in the words of a history

module _ (p : Plan) where
  most-is : (mask : ℕ) (past : List ℕ) → how_many (works_after (period p) past mask) p.nodes ≡ how_many (λ i. good_in i (mask ∷ take (period p) past)) p.nodes
  most-is mask past = how_many-same _ _ p.nodes (λ i l. works-good (period p) past mask i)

  most-good : (mask : ℕ) (past : List ℕ) → most_work p.nodes (period p) past mask ≡ true → MostGood p mask past
  unfolding most_work MostGood
  most-good mask past e = omega (arith, ltb-true p.nodes (2 * how_many (works_after (period p) past mask) p.nodes) e, most-is mask past)

  good-most : (mask : ℕ) (past : List ℕ) → MostGood p mask past → most_work p.nodes (period p) past mask ≡ true
  unfolding most_work MostGood
  good-most mask past h = lt-ltb p.nodes (2 * how_many (works_after (period p) past mask) p.nodes) (omega (arith, h, most-is mask past))

  -- at every call of the list, by what was before it
  lived-of-premise : (cs : List Call) (past : List ℕ) → Premise p cs past → lived p.nodes (period p) past (history_of cs) ≡ true
  unfolding Premise lived history_of
  lived-of-premise [] past h = refl
  lived-of-premise (c ∷ cs) past h =
      let later : (since : List ℕ) → Premise p cs since → lived p.nodes (period p) since (history_of cs) ≡ true = lived-of-premise cs in
      split (is_frame c)
      (λ e. rw e (and_both (good-most c.mask past (h.0 e)) (later (c.mask ∷ past) (rw e at h.1))))
      (λ e. rw e (later past (rw e at h.1)))

  premise-of-lived : (cs : List Call) (past : List ℕ) → lived p.nodes (period p) past (history_of cs) ≡ true → Premise p cs past
  unfolding Premise lived history_of
  premise-of-lived [] past = λ h. tt
  premise-of-lived (c ∷ cs) past =
      let later : (since : List ℕ) → lived p.nodes (period p) since (history_of cs) ≡ true → Premise p cs since = premise-of-lived cs in
      split (is_frame c)
      (λ e. rw e (λ h. (λ f. most-good c.mask past (and_left (most_work p.nodes (period p) past c.mask) _ h), later (c.mask ∷ past) (and_right (most_work p.nodes (period p) past c.mask) _ h))))
      (λ e. rw e (λ h. (λ f. absurd (clash f refl), later past h)))

  -- the masks of frames are masks of the plan's nodes
  module _ (accept : accepted p ≡ true) where
    masks-fit : (cs : List Call) → OnePlan p cs → all_in (λ mask. ltb mask (2 ^ p.nodes)) (history_of cs) ≡ true
    unfolding OnePlan history_of all_in
    masks-fit [] one = refl
    masks-fit (c ∷ cs) one =
        let later : all_in (λ mask. ltb mask (2 ^ p.nodes)) (history_of cs) ≡ true = masks-fit cs one.1 in
        split (is_frame c)
        (λ e. rw e (and_both (lt-ltb c.mask (2 ^ p.nodes) (mask_below p c one.0 e)) later))
        (λ e. rw e later)

pub premise-listed : PremiseListed
unfolding plan_histories
premise-listed p accept cs one = (
  λ h. (exactly p.nodes (period p) (length (history_of cs)) (history_of cs)).1 (refl, masks-fit p accept cs one, lived-of-premise p cs [] h),
  λ m. premise-of-lived p cs [] ((exactly p.nodes (period p) (length (history_of cs)) (history_of cs)).0 m).2,
)

pub lived-through : LivedThrough
lived-through p accept cs one m = demand3 p accept cs one ((premise-listed p accept cs one).1 m)

-- ---- the working nodes of a frame, as the listing counts them

pub same-working : SameWorking
unfolding is_working works_after
same-working p accept cs one mask = how_many-same _ _ p.nodes (λ i l. rw (good-finally p accept cs one i l))

-- the history of a list has the masks of its frames, which demand 3 has the newest first
pub history-masks : (cs : List Call) (past : List ℕ) → masks cs past ≡ reverse_aux (history_of cs) past
unfolding masks history_of
history-masks [] past = refl
history-masks (c ∷ cs) past =
    let later : (since : List ℕ) → masks cs since ≡ reverse_aux (history_of cs) since = history-masks cs in
    split (is_frame c) (λ e. rw e (later (c.mask ∷ past))) (λ e. rw e (later past))

-- ---- a list of frame calls for each history

zeros : (n k : ℕ) → get_or {A = ℕ} (replicate n 0) k 0 ≡ 0
zeros zero k = refl
zeros (suc n) zero = refl
zeros (suc n) (suc k) = zeros n k

zeros-long : (n : ℕ) → eqb (length {A = ℕ} (replicate n 0)) n ≡ true
zeros-long n = eq-eqb (length {A = ℕ} (replicate n 0)) n (length-replicate n 0)

frame_with : Plan → ℕ → Call
frame_with p mask =
    record {
      plan = p;
      sensors = replicate p.sensors 0;
      patterns = λ k. rw (zeros p.sensors k) (lit< tt);
      mask = mask;
      faults = replicate (faults_size (sizes_of p)) 0;
      place = replicate p.actuators 0;
    }

module _ (p : Plan) (accept : accepted p ≡ true) where
  frame-runs : (mask : ℕ) → mask < 2 ^ p.nodes → is_frame (frame_with p mask) ≡ true
  unfolding is_frame call_tests call_lengths passed lengths_ok mask_ok frame_with
  frame-runs mask l = rw (accept, lt-ltb mask (2 ^ p.nodes) l, zeros-long p.sensors, zeros-long (faults_size (sizes_of p)), zeros-long p.actuators)

  calls-of : List ℕ → List Call
  calls-of h = map (frame_with p) h

  one-plan : (h : List ℕ) → OnePlan p (calls-of h)
  unfolding OnePlan calls-of frame_with
  one-plan [] = tt
  one-plan (mask ∷ h) = (inl refl, one-plan h)

  history-back : (h : List ℕ) → all_in (λ mask. ltb mask (2 ^ p.nodes)) h ≡ true → history_of (calls-of h) ≡ h
  unfolding history_of calls-of all_in frame_with
  history-back [] a = refl
  history-back (mask ∷ h) a =
      let later : history_of (map (frame_with p) h) ≡ h = history-back h (and_right (ltb mask (2 ^ p.nodes)) _ a) in
      rw (frame-runs mask (ltb-true mask (2 ^ p.nodes) (and_left (ltb mask (2 ^ p.nodes)) _ a)), later)

pub some-calls : SomeCalls
unfolding plan_histories
some-calls p accept k h m =
    let is = (exactly p.nodes (period p) k h).0 m in
    (calls-of p accept h, one-plan p accept h, history-back p accept h is.1)
