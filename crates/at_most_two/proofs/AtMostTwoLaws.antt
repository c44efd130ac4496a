-- What AtMostTwo states of a press of one or two controllers holds (request 2026-04); and what the press is handed there (request 2026-06), and the listing says of it.
use Rattle.std.specs.Prelude.{Some, unwrap_or}
use mathlib.Core.Path.{◌≡◌, refl, sym, ap, ◌∙◌}
use mathlib.Core.Bool.{Bool, true, false, not}
use mathlib.Core.List.{List, [], ◌∷◌, ◌++◌}
use mathlib.Core.Logic.{◌⊎◌, inr}
use Prim.Native.Nat.{ℕ, suc, ◌%◌, ◌^◌, ◌≤◌, ◌<◌}
use native.Mathlib.Omega.{arith}
use native.Mathlib.Nat.{mod-eq_of_lt}
use lib.Dec.{eqb, ltb}
use lib.ListN.{length, get_or, take}
use borrow.Author.Tests.{ltb-true, ltb-false, eq-eqb, ne_eqb, not-true}
use Rattle.array.specs.Index.{all_below, all_in, fill}
use Rattle.array.proofs.TestLaws.{split, and_left, and_right, and_both}
use Rattle.array.proofs.IndexLaws.{all_below-at, all_below-not, all_in-take, how_many-bound, how_many-all, how_many-every}
use Rattle.array.proofs.LeastLaws.{least-missing, least-of-some}
use Rattle.array.proofs.PlacesLaws.{fill-length, fill-in, fill-same}
use Rattle.array.proofs.BitLaws.{mask-none}
use Rattle.plan.specs.declared.Plan.{Plan}
use Rattle.plan.specs.Known.{period}
use Rattle.plan.specs.Tables.{voted_in}
use Rattle.plan.specs.Sizes.{sizes_of}
use Rattle.plan.specs.Accepted.{accepted}
use Rattle.plan.proofs.AcceptedLaws.{Shape, shape-of-accepted}
use Rattle.memory.specs.declared.Memory.{Memory}
use Rattle.memory.specs.Node.{zero_memory, powered_on, computed, before, message_of, bin_of, counter_in, cell_in}
use Rattle.ballot.specs.Majority.{holders}
use Rattle.ballot.proofs.MajorityLaws.{holders-some}
use Rattle.ballot.proofs.ScanLaws.{holders-held}
use Rattle.ballot.proofs.PlaneLaws.{plane-of-most}
use Rattle.ballot.proofs.AtMostTwoLaws.{plane-remembered, plane-first}
use Rattle.task.proofs.TaskLaws.{Bounded}
use Rattle.memory.proofs.MessageLaws.{sent_cell-voted, counter_from-message, cell_from-message, counter_in-bin, cell_in-bin}
use Rattle.memory.proofs.NodeLaws.{powered_on-bounded, computed-small, computed-length, computed-bounded}
use Rattle.memory.proofs.VoteLaws.{before-computed, vote-length}
use Rattle.memory.proofs.AtMostTwoLaws.{vote-counter-own, vote-own, vote-agreement-all, vote-agreement-one}
use Rattle.system.specs.declared.System.{System}
use Rattle.system.specs.System.{zero_system, power_on}
use Rattle.system.specs.Fault.{bad, fault_setpoint}
use Rattle.system.specs.Frame.{memory_of, handed_of, computed_by, heard, mailbox_of, memory_after, put_out, handed_on, system_after, place_after, agreement_by, frame_agreement}
use Rattle.system.specs.CountCalls.{same_memory}
use Rattle.system.specs.Demand.{Call, is_frame, next, finally, single_next, single_finally, masks, good_in, MostGood, Premise, OnePlan}
use Rattle.at_most_two.specs.AtMostTwo.{all_good, Vouched, Bytes, NoRepair, Apart, StaysApart, OneStaysApart, remembered_or_first}
use Rattle.system.proofs.FaultLaws.{fault_memory-length, fault_memory-bounded}
use Rattle.system.proofs.CountLaws.{Counts, counts-after}
use Rattle.system.proofs.FrameLaws.{heard-length, memory-after}
use Rattle.system.proofs.StateLaws.{State, state-start}
use Rattle.system.proofs.DemandLaws.{since, single-frame, single-refused, next-frame, next-refused, one_left, one_right, zero-good, mask_below}

-- ---- lists of masks

abbrev zero_mask : ℕ → Bool
zero_mask mask = eqb mask 0

abbrev good_mask : ℕ → ℕ → Bool
good_mask i mask = not (bad mask i)

-- what holds of all masks, a call's own among them if it is a frame, holds of those before, and of its own
since-past : (q : ℕ → Bool) (c : Call) (past : List ℕ) → all_in q (since c past) ≡ true → all_in q past ≡ true
unfolding all_in
since-past q c past h = split (is_frame c) (λ e. and_right (q c.mask) _ (rw e at h)) (λ e. rw e at h)

since-own : (q : ℕ → Bool) (c : Call) (past : List ℕ) → is_frame c ≡ true → all_in q (since c past) ≡ true → q c.mask ≡ true
unfolding all_in
since-own q c past e h = and_left (q c.mask) (all_in q past) (rw e at h)

all_past : (q : ℕ → Bool) (cs : List Call) (past : List ℕ) → all_in q (masks cs past) ≡ true → all_in q past ≡ true
unfolding masks
all_past q [] past h = h
all_past q (c ∷ cs) past h = since-past q c past (all_past q cs (since c past) h)

good_in-is : (i : ℕ) (l : List ℕ) → good_in i l ≡ all_in (good_mask i) l
unfolding good_in all_in
good_in-is i [] = refl
good_in-is i (mask ∷ l) = rw (good_in-is i l)

-- ---- demand 3's premise

module _ (p : Plan) (accept : accepted p ≡ true) where
  -- with no node bad, more than half are good: on any press
  zero-most : (mask : ℕ) (past : List ℕ) → all_in zero_mask (mask ∷ past) ≡ true → MostGood p mask past
  unfolding MostGood
  zero-most mask past h =
      omega (
        arith,
        (shape-of-accepted p accept).nodes-low,
        how_many-every (λ i. good_in i (mask ∷ take (period p) past)) p.nodes
            (λ i l. zero-good i (mask ∷ take (period p) past) (all_in-take zero_mask (suc (period p)) (mask ∷ past) h)),
      )

  pub premise-of-good : (cs : List Call) (past : List ℕ) → all_in zero_mask (masks cs past) ≡ true → Premise p cs past
  unfolding Premise masks
  premise-of-good [] past h = tt
  premise-of-good (c ∷ cs) past h =
      (λ e. zero-most c.mask past (rw e at (all_past zero_mask cs (since c past) h)), premise-of-good cs (since c past) h)

  module _ (two : p.nodes ≤ 2) where
    most-zero : (mask : ℕ) (past : List ℕ) → mask < 2 ^ p.nodes → MostGood p mask past → mask ≡ 0
    unfolding MostGood good_in
    most-zero mask past l h =
        mask-none p.nodes mask l
        (λ i k. not-true (bad mask i) (and_left _ (good_in i (take (period p) past))
        (how_many-all (λ j. good_in j (mask ∷ take (period p) past)) p.nodes
        (omega (arith, h, two, how_many-bound (λ j. good_in j (mask ∷ take (period p) past)) p.nodes)) i k)))

    good-of-premise : (cs : List Call) (past : List ℕ) → OnePlan p cs → all_in zero_mask past ≡ true → Premise p cs past → all_in zero_mask (masks cs past) ≡ true
    unfolding OnePlan Premise masks all_in
    good-of-premise [] past one h premise = h
    good-of-premise (c ∷ cs) past one h premise = good-of-premise cs (since c past) one.1 (here (is_frame c) refl) premise.1
      where
        here : (b : Bool) → is_frame c ≡ b → all_in zero_mask (since c past) ≡ true
        here true e = rw e (and_both (eq-eqb c.mask 0 (most-zero c.mask past (mask_below p c one.0 e) (premise.0 e))) h)
        here false e = rw e h

pub vouched : Vouched
unfolding all_good all_in
vouched p accept two cs one = (λ h. good-of-premise p accept two cs [] one refl h, λ h. premise-of-good p accept cs [] h)

-- ---- one frame: a good node of one or two leaves it with what it computed

module _
    (p : Plan) (accept : accepted p ≡ true) (two : p.nodes ≤ 2)
    (sys : System) (sensors : List ℕ) (mask : ℕ) (faults : List ℕ) (i : ℕ) (l : i < p.nodes) (good : bad mask i ≡ false)
  where
    abbrev shape : Shape p
    shape = shape-of-accepted p accept

    abbrev old : Memory
    old = memory_of sys i

    abbrev run : Memory
    run = computed p sensors old

    abbrev box : List ℕ
    box = mailbox_of p sys sensors mask faults i

    sends : heard p sys sensors mask faults i i ≡ bin_of (message_of p run)
    unfolding heard computed_by
    sends = rw good

    -- its own bin says what it computed
    own : counter_in p box i ≡ Some run.counter
    unfolding mailbox_of
    own =
        counter_in-bin p (heard p sys sensors mask faults i) p.nodes (heard-length p sys sensors mask faults i) i l
        ∙ rw sends (counter_from-message p run (omega (arith, computed-small p sensors old shape.frames-pos, shape.frames-le)))

    pub counter-own : (memory_after p sys sensors mask faults i).counter ≡ run.counter
    unfolding memory_after computed_by
    counter-own = rw good (vote-counter-own p two run box i l own)

    module _ (size : p.cells ≤ length old.cells) (patterns : Bounded sensors) (bounded : Bounded old.cells) where
      owns : (c : ℕ) → c < p.cells → voted_in p (before p run.counter) c ≡ true → cell_in p box c i ≡ Some (get_or run.cells c 0)
      unfolding mailbox_of
      owns c k v =
          cell_in-bin p (heard p sys sensors mask faults i) p.nodes (heard-length p sys sensors mask faults i) i l c k
          ∙ rw (sends, cell_from-message p run c k (computed-bounded p sensors old shape patterns bounded c), sent_cell-voted p run c v)

      pub memory-own : memory_after p sys sensors mask faults i ≡ run
      unfolding memory_after computed_by
      memory-own = rw good (vote-own p two run box i l own (omega (arith, size, computed-length p sensors old)) owns)

-- ---- between two calls, whoever was good

record Ran (p : Plan) (sys : System) (past : List ℕ) : Type 0 where
  memories : p.nodes ≤ length sys.memories
  sizes : (i : ℕ) → i < p.nodes → p.cells ≤ length (memory_of sys i).cells
  counts : Counts p sys past

ran-start : (p : Plan) → accepted p ≡ true → Ran p (power_on p) []
ran-start p accept =
    let st : State p (power_on p) (powered_on p) [] = state-start p accept in
    record { memories = st.memories; sizes = λ i l. omega (arith, (st.node i l).size, st.single.size); counts = st.counts }

length-after :
    (p : Plan) (sys : System) (sensors : List ℕ) (mask : ℕ) (faults : List ℕ) (i : ℕ) →
    length (memory_after p sys sensors mask faults i).cells ≡ length (memory_of sys i).cells
unfolding memory_after computed_by
length-after p sys sensors mask faults i =
    split (bad mask i)
    (λ e. rw e (fault_memory-length (sizes_of p) faults i (memory_of sys i)))
    (λ e. rw e (vote-length p (computed p sensors (memory_of sys i)) (mailbox_of p sys sensors mask faults i) ∙ computed-length p sensors (memory_of sys i)))

module _ (p : Plan) (c : Call) (plan : (c.plan ≡ p) ⊎ (accepted c.plan ≡ false)) (sys : System) (past : List ℕ) (ran : Ran p sys past) where
  memory-next : is_frame c ≡ true → (i : ℕ) → i < p.nodes → memory_of (next sys c) i ≡ memory_after p sys c.sensors c.mask c.faults i
  memory-next e i l = rw (next-frame p c plan sys past ran.counts e) (memory-after p sys c.sensors c.mask c.faults ran.memories i l)

  memory-stays : is_frame c ≡ false → (i : ℕ) → memory_of (next sys c) i ≡ memory_of sys i
  memory-stays e i = rw (next-refused p c plan sys past ran.counts e)

  ran-frame : Ran p (system_after p sys c.sensors c.mask c.faults) (c.mask ∷ past)
  unfolding system_after
  ran-frame =
      record {
        memories = omega (arith, ran.memories, fill-length (memory_after p sys c.sensors c.mask c.faults) p.nodes sys.memories);
        sizes = λ i l.
            rw (memory-after p sys c.sensors c.mask c.faults ran.memories i l)
            (omega (arith, ran.sizes i l, length-after p sys c.sensors c.mask c.faults i));
        counts = counts-after p sys past ran.counts c.sensors c.mask c.faults;
      }

  ran-next : Ran p (next sys c) (since c past)
  ran-next =
      split (is_frame c)
      (λ e. rw (next-frame p c plan sys past ran.counts e, e) ran-frame)
      (λ e. rw (next-refused p c plan sys past ran.counts e, e) ran)

ran-finally : (p : Plan) (cs : List Call) → OnePlan p cs → (sys : System) (past : List ℕ) → Ran p sys past → Ran p (finally sys cs) (masks cs past)
unfolding OnePlan finally masks
ran-finally p [] one sys past ran = ran
ran-finally p (c ∷ cs) one sys past ran = ran-finally p cs one.1 (next sys c) (since c past) (ran-next p c one.0 sys past ran)

finally-append : (a b : List Call) (sys : System) → finally sys (a ++ b) ≡ finally (finally sys a) b
unfolding finally
finally-append [] b sys = refl
finally-append (c ∷ a) b sys = finally-append a b (next sys c)

single_finally-append : (a b : List Call) (s : Memory) → single_finally s (a ++ b) ≡ single_finally (single_finally s a) b
unfolding single_finally
single_finally-append [] b s = refl
single_finally-append (c ∷ a) b s = single_finally-append a b (single_next s c)

-- ---- lists of calls in whose frames node i is good

-- compute keeps two memories in one frame, or in two
same-frame :
    (p : Plan) → 0 < p.frames → (sensors : List ℕ) (m s : Memory) →
    (computed p sensors m).counter % p.frames ≡ (computed p sensors s).counter % p.frames →
    m.counter % p.frames ≡ s.counter % p.frames
same-frame p pos sensors m s e =
    sym (before-computed p sensors m pos)
    ∙ ap (before p) (sym (mod-eq_of_lt (computed-small p sensors m pos)) ∙ e ∙ mod-eq_of_lt (computed-small p sensors s pos))
    ∙ before-computed p sensors s pos

module _ (p : Plan) (accept : accepted p ≡ true) where
  single-bounded :
      (c : Call) → (c.plan ≡ p) ⊎ (accepted c.plan ≡ false) → (s : Memory) → Bounded s.cells → Bounded (single_next s c).cells
  single-bounded c plan s bounded =
      split (is_frame c)
      (λ e. rw (single-frame p c plan e s) (computed-bounded p c.sensors s (shape-of-accepted p accept) c.patterns bounded))
      (λ e. rw (single-refused p c plan e s) bounded)

module _ (p : Plan) (accept : accepted p ≡ true) (two : p.nodes ≤ 2) (i : ℕ) (l : i < p.nodes) where
  module _
      (c : Call) (plan : (c.plan ≡ p) ⊎ (accepted c.plan ≡ false)) (sys : System) (past : List ℕ) (ran : Ran p sys past)
      (good : is_frame c ≡ true → bad c.mask i ≡ false)
    where
      apart_next : (s : Memory) → Apart p (memory_of sys i) s → Apart p (memory_of (next sys c) i) (single_next s c)
      unfolding Apart
      apart_next s apart =
          split (is_frame c)
          (λ e.
          rw (
            memory-next p c plan sys past ran e i l,
            counter-own p accept two sys c.sensors c.mask c.faults i l (good e),
            single-frame p c plan e s,
          )
          (λ q. apart (same-frame p (shape-of-accepted p accept).frames-pos c.sensors (memory_of sys i) s q)))
          (λ e. rw (memory-stays p c plan sys past ran e i, single-refused p c plan e s) apart)

      own-next : Bounded (memory_of sys i).cells → memory_of (next sys c) i ≡ single_next (memory_of sys i) c
      own-next bounded =
          split (is_frame c)
          (λ e.
          memory-next p c plan sys past ran e i l
          ∙ memory-own p accept two sys c.sensors c.mask c.faults i l (good e) (ran.sizes i l) c.patterns bounded
          ∙ sym (single-frame p c plan e (memory_of sys i)))
          (λ e. memory-stays p c plan sys past ran e i ∙ sym (single-refused p c plan e (memory_of sys i)))

  -- a call leaves words in its memory, whatever bytes a fault has
  bounded-next :
      (c : Call) (plan : (c.plan ≡ p) ⊎ (accepted c.plan ≡ false)) (sys : System) (past : List ℕ) → Ran p sys past →
      ((k : ℕ) → get_or c.faults k 0 < 256) → Bounded (memory_of sys i).cells → Bounded (memory_of (next sys c) i).cells
  unfolding memory_after
  bounded-next c plan sys past ran bytes bounded =
      split (is_frame c)
      (λ e.
      split (bad c.mask i)
      (λ b. rw (memory-next p c plan sys past ran e i l, b) (fault_memory-bounded (sizes_of p) c.faults i (memory_of sys i) bytes bounded))
      (λ b. rw (own-next c plan sys past ran (λ t. b) bounded) (single-bounded p accept c plan (memory_of sys i) bounded)))
      (λ e. rw (memory-stays p c plan sys past ran e i) bounded)

  bounded-finally :
      (cs : List Call) → OnePlan p cs → Bytes cs → (sys : System) (past : List ℕ) → Ran p sys past →
      Bounded (memory_of sys i).cells → Bounded (memory_of (finally sys cs) i).cells
  unfolding OnePlan Bytes finally
  bounded-finally [] one bytes sys past ran bounded = bounded
  bounded-finally (c ∷ cs) one bytes sys past ran bounded =
      bounded-finally cs one.1 bytes.1 (next sys c) (since c past) (ran-next p c one.0 sys past ran)
      (bounded-next c one.0 sys past ran bytes.0 bounded)

  start-bounded : Bounded (memory_of (power_on p) i).cells
  unfolding power_on
  start-bounded =
      let shape = shape-of-accepted p accept in
      rw (fill-in (λ k. powered_on p) p.nodes zero_system.memories i zero_memory l (omega (arith, shape.nodes-high))) (powered_on-bounded p shape)

  -- in the frames of a list, on top of any before it
  good-here : (c : Call) (cs : List Call) (top : List ℕ) → all_in (good_mask i) (masks (c ∷ cs) top) ≡ true → is_frame c ≡ true → bad c.mask i ≡ false
  unfolding masks
  good-here c cs top good e = not-true (bad c.mask i) (since-own (good_mask i) c top e (all_past (good_mask i) cs (since c top) good))

  apart-finally :
      (cs : List Call) → OnePlan p cs → (sys : System) (s : Memory) (past top : List ℕ) → Ran p sys past → all_in (good_mask i) (masks cs top) ≡ true →
      Apart p (memory_of sys i) s → Apart p (memory_of (finally sys cs) i) (single_finally s cs)
  unfolding OnePlan finally single_finally masks
  apart-finally [] one sys s past top ran good apart = apart
  apart-finally (c ∷ cs) one sys s past top ran good apart =
      apart-finally cs one.1 (next sys c) (single_next s c) (since c past) (since c top) (ran-next p c one.0 sys past ran) good
      (apart_next c one.0 sys past ran (good-here c cs top good) s apart)

  own-finally :
      (cs : List Call) → OnePlan p cs → (sys : System) (past top : List ℕ) → Ran p sys past → all_in (good_mask i) (masks cs top) ≡ true →
      Bounded (memory_of sys i).cells → memory_of (finally sys cs) i ≡ single_finally (memory_of sys i) cs
  unfolding OnePlan finally single_finally masks
  own-finally [] one sys past top ran good bounded = refl
  own-finally (c ∷ cs) one sys past top ran good bounded =
      let step : memory_of (next sys c) i ≡ single_next (memory_of sys i) c = own-next c one.0 sys past ran (good-here c cs top good) bounded in
      own-finally cs one.1 (next sys c) (since c past) (since c top) (ran-next p c one.0 sys past ran) good
      (rw step (single-bounded p accept c one.0 (memory_of sys i) bounded))
      ∙ ap (λ (m : Memory). single_finally m cs) step

pub no-repair : NoRepair
no-repair p accept two earlier later one bytes i l good =
    ap (λ (x : System). memory_of x i) (finally-append earlier later (power_on p))
    ∙ own-finally p accept two i l later (one_right p earlier later one) (finally (power_on p) earlier) (masks earlier []) []
    (ran-finally p earlier before (power_on p) [] (ran-start p accept))
    (sym (good_in-is i (masks later [])) ∙ good)
    (bounded-finally p accept two i l earlier before bytes (power_on p) [] (ran-start p accept) (start-bounded p accept two i l))
  where
    before : OnePlan p earlier
    before = one_left p earlier later one

pub stays-apart : StaysApart
stays-apart p accept two earlier later one i l good apart =
    rw (finally-append earlier later (power_on p), single_finally-append earlier later (powered_on p))
    (apart-finally p accept two i l later (one_right p earlier later one) (finally (power_on p) earlier) (single_finally (powered_on p) earlier) (masks earlier []) []
    (ran-finally p earlier (one_left p earlier later one) (power_on p) [] (ran-start p accept))
    (sym (good_in-is i (masks later [])) ∙ good) apart)

pub one-stays-apart : OneStaysApart
unfolding all_good
one-stays-apart p accept n earlier later one good apart =
    stays-apart p accept (omega arith) earlier later one 0 (omega arith) (zero-good 0 (masks later []) good) apart

-- ---- what the press is handed, and what the columns say

-- a memory in another frame is not equal to the single controller's
pub apart-unequal : (p : Plan) (m s : Memory) → Apart p m s → same_memory p m s ≡ false
unfolding Apart same_memory
apart-unequal p m s apart = rw (ne_eqb m.counter s.counter (λ e. apart (ap (λ (c : ℕ). c % p.frames) e)))

module _ (p : Plan) (accept : accepted p ≡ true) (two : p.nodes ≤ 2) (sys : System) (sensors : List ℕ) (mask : ℕ) (faults : List ℕ) where
  puts : (a j : ℕ) → put_out p sys sensors mask faults a j ≡ Some (unwrap_or (put_out p sys sensors mask faults a j) 0)
  unfolding put_out fault_setpoint
  puts a j = split (bad mask j) (λ e. rw e) (λ e. rw e)

  -- the plane hands on the remembered value where one of them puts it out, good or bad
  pub handed-remembered :
      (a j : ℕ) → j < p.nodes → put_out p sys sensors mask faults a j ≡ Some (handed_of sys a) → handed_on p sys sensors mask faults a ≡ handed_of sys a
  unfolding handed_on
  handed-remembered a j l e = plane-remembered (put_out p sys sensors mask faults a) p.nodes two (handed_of sys a) j l e

  -- else what node 0 puts out, good or bad
  pub handed-first :
      (a : ℕ) → ((j : ℕ) → j < p.nodes → put_out p sys sensors mask faults a j ≡ Some (handed_of sys a) → ⊥) →
      handed_on p sys sensors mask faults a ≡ unwrap_or (put_out p sys sensors mask faults a 0) 0
  unfolding handed_on
  handed-first a nobody =
      plane-first (put_out p sys sensors mask faults a) p.nodes two (handed_of sys a) _ (shape-of-accepted p accept).nodes-low (puts a 0) nobody

  handed-either : (a : ℕ) → handed_on p sys sensors mask faults a ≡ remembered_or_first p sys sensors mask faults a
  unfolding remembered_or_first
  handed-either a =
      let put = put_out p sys sensors mask faults a in
      split (ltb 0 (holders put p.nodes (handed_of sys a)))
      (λ t. let s = holders-some put p.nodes (handed_of sys a) (ltb-true _ _ t) in rw t (handed-remembered a s.0 s.1 s.2))
      (λ t. rw t (handed-first a (λ j l e.
      omega (arith, holders-held put p.nodes j l e, ltb-false 0 (holders put p.nodes (handed_of sys a)) t))))

  -- so the place has these
  pub place-remembered-or-first :
      (place : List ℕ) → place_after p sys sensors mask faults place ≡ fill (remembered_or_first p sys sensors mask faults) p.actuators place
  unfolding place_after
  place-remembered-or-first place = fill-same _ _ p.actuators place (λ a l. handed-either a)

  -- all agree, or none
  pub agreement-all-or-none : (frame_agreement p sys sensors mask faults ≡ p.nodes) ⊎ (frame_agreement p sys sensors mask faults ≡ 0)
  unfolding frame_agreement agreement_by
  agreement-all-or-none =
      split (all_below (bad mask) p.nodes)
      (λ t. inr (rw (least-missing _ _ p.nodes (λ k l. ap not (all_below-at (bad mask) p.nodes k l t)))))
      (λ t.
      let r = all_below-not (bad mask) p.nodes t in
      least-of-some _ _ (λ (k : ℕ). (k ≡ p.nodes) ⊎ (k ≡ 0)) p.nodes r.0 r.1 (ap not r.2)
      (λ k l u. vote-agreement-all p two (computed_by p sys sensors mask faults k) (mailbox_of p sys sensors mask faults k)))

-- of one controller the plane hands on what it puts out, good or bad, whatever is remembered
pub place-one :
    (p : Plan) → accepted p ≡ true → p.nodes ≡ 1 → (sys : System) (sensors : List ℕ) (mask : ℕ) (faults place : List ℕ) →
    place_after p sys sensors mask faults place ≡ fill (λ a. unwrap_or (put_out p sys sensors mask faults a 0) 0) p.actuators place
unfolding place_after handed_on
place-one p accept one sys sensors mask faults place =
    fill-same _ _ p.actuators place
    (λ a l.
    let put = put_out p sys sensors mask faults a in
    let held = holders-held put p.nodes 0 (omega arith) (puts p accept (omega arith) sys sensors mask faults a 0) in
    plane-of-most put p.nodes (handed_of sys a) (unwrap_or (put 0) 0) (omega (arith, one, held)))

-- one controller alone agrees with itself in every frame in which it is good, whatever it holds
pub one-agrees :
    (p : Plan) → p.nodes ≡ 1 → (sys : System) (sensors : List ℕ) (mask : ℕ) (faults : List ℕ) → bad mask 0 ≡ false →
    frame_agreement p sys sensors mask faults ≡ 1
unfolding frame_agreement agreement_by
one-agrees p one sys sensors mask faults good =
    least-of-some _ _ (λ (k : ℕ). k ≡ 1) p.nodes 0 (omega arith) (ap not good)
    (λ k l u. vote-agreement-one p one (computed_by p sys sensors mask faults k) (mailbox_of p sys sensors mask faults k))
