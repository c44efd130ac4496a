-- Demand 3 is not empty, by computation. Document 01's run of plan K meets the premise, and the plane's values are the listing's. So does a list with
-- refused calls, a node that tells each neighbour something else, and its recovery. Without the premise, or without its R frames, the demand is false. With two controllers (request
-- 2026-04) a run without faults meets it, and of one in whose second frame a controller is bad the demand is
-- false; a controller that a fault left in another frame is there for ever.
use Rattle.std.specs.Prelude.{None, Some, Ok}
use mathlib.Core.Path.{◌≡◌, refl, sym, ap, ◌∙◌}
use mathlib.Core.Bool.{Bool, true, false}
use mathlib.Core.List.{List, [], ◌∷◌, ◌++◌}
use mathlib.Core.Logic.{inl, inr}
use Prim.Native.Nat.{ℕ, zero, suc, ◌*◌, ◌^◌, ◌<◌}
use native.Mathlib.Omega.{arith}
use lib.Dec.{leb, lit<}
use lib.Ieee.{of_bits, to_bits, is_nan, add}
use lib.ListN.{get_or, set, take, replicate}
use Rattle.array.specs.Index.{how_many, all_below, all_in, fill, joined, from, lesser, least}
use Rattle.array.specs.Word.{be, bytes}
use Rattle.array.specs.Bit.{bit}
use Rattle.array.proofs.TestLaws.{clash, and_both, and-false-right}
use Rattle.pattern.specs.Pattern.{sum_of}
use Rattle.answer.specs.declared.Refusal.TheVariants.{InvalidPlan, WrongLength, MaskOrCount}
use Rattle.plan.specs.declared.Op.TheVariants.{Take, Sum}
use Rattle.answer.specs.Tests.{passed, refused, unless, given, if_passed}
use Rattle.plan.specs.declared.Plan.{Plan}
use Rattle.plan.specs.Known.{reads, reads_known, know_task, know_tasks, know_voted, know_frame, known, all_known, period_to, period}
use Rattle.plan.specs.Tables.{unused_task, voted_in}
use Rattle.plan.specs.Limits.{least_nodes, most_nodes}
use Rattle.plan.specs.Sizes.{sizes_of}
use Rattle.plan.specs.Accepted.{header_ok, constants_ok, op_ok, task_ok, is_zero_take, is_unused, not_falling, task_entry, initial_entry, vote_entry, actuator_entry, entries_ok, op_storable, storable, well_formed, accepted}
use Rattle.task.specs.Task.{op_value, run_task, run_tasks}
use Rattle.ballot.specs.Majority.{holds, holders, backing, shared, first_shared, majority, agreement, or_own}
use Rattle.ballot.specs.Plane.{most_held, none_more, plane}
use Rattle.memory.specs.Node.{powered_on, computed, before, sent_cell, message_of, bin_of, counter_from, cell_from, counter_in, cell_in, voted_counter, voted_cell, voted, vote_agreement, setpoint}
use Rattle.system.specs.System.{first_handed, power_on}
use Rattle.system.specs.Fault.{fault_memory, fault_message, fault_setpoint}
use Rattle.system.specs.Counts.{count_after, good_after}
use Rattle.system.specs.Frame.{memory_of, computed_by, heard, mailbox_of, memory_after, put_out, handed_on, system_after, place_after, agreement_by, frame_agreement}
use Rattle.system.specs.Single.{single_place}
use Rattle.system.specs.FrameCall.{mask_ok, counts_ok, lengths_ok, frame_tests, frame_answer, frame_system, frame_place}
use Rattle.system.specs.Demand.{Call, call_lengths, call_tests, call_answer, is_frame, next, answers, places, finally, single_next, single_places, single_finally, call_answers, masks, good_in, MostGood, Premise, OnePlan, Tolerated}
use Rattle.system.specs.Agreement.{agreements}
use Rattle.at_most_two.specs.AtMostTwo.{all_good, memory_finally, Apart}
use Rattle.system.proofs.DemandLaws.{demand3}
use Rattle.at_most_two.proofs.AtMostTwoLaws.{one-stays-apart}

-- ---- plan K

no_votes : List Bool
no_votes = replicate 512 false

-- plan K with so many nodes and these votes
plan : ℕ → List Bool → Plan
plan n votes =
    record {
      nodes = n;
      frames = 2;
      cells = 2;
      sensors = 1;
      actuators = 1;
      initial = replicate 32 0;
      task_count = 2;
      tasks =
          set (set (replicate 64 unused_task) 0 (record { frame = 0; target = 0; op = Take 0 }))
          1
          (record { frame = 1; target = 1; op = Sum 0 1 });
      voted = votes;
      actuator_cell = set (replicate 8 0) 0 1;
    }

-- its own: cell 1 in frame 1
vote_k : List Bool
vote_k = set no_votes 33 true

pub plan_k : Plan
plan_k = plan 3 vote_k

-- plan K without its vote: 6, so that 7 refuses its record
plan_z : Plan
plan_z = plan 3 no_votes

-- of its tests only the header's goes by the number of nodes, and so R does not
plan-storable : (n : ℕ) → storable (plan n vote_k) ≡ true
unfolding plan vote_k no_votes storable op_storable all_below
plan-storable n = refl

plan-entries : (n : ℕ) → entries_ok (plan n vote_k) ≡ true
unfolding plan vote_k no_votes entries_ok task_entry task_ok op_ok constants_ok reads is_unused is_zero_take not_falling initial_entry vote_entry actuator_entry voted_in all_below all_in
plan-entries n = refl

plan-period : (n : ℕ) → period (plan n vote_k) ≡ 3
unfolding plan vote_k no_votes period period_to all_known known know_frame know_voted know_tasks know_task reads_known reads voted_in all_below all_in
plan-period n = refl

plan-header : (n : ℕ) → leb least_nodes n ≡ true → leb n most_nodes ≡ true → header_ok n 2 2 1 1 2 ≡ true
unfolding header_ok
plan-header n low high = rw (low, high)

plan-accepted : (n : ℕ) → leb least_nodes n ≡ true → leb n most_nodes ≡ true → accepted (plan n vote_k) ≡ true
unfolding accepted well_formed plan
plan-accepted n low high =
    and_both (and_both (plan-storable n) (and_both (plan-header n low high) (plan-entries n))) (rw (plan-period n))

pub plan_k-accepted : accepted plan_k ≡ true
unfolding plan_k
plan_k-accepted = plan-accepted 3 refl refl

plan_z-period : period plan_z ≡ 0
unfolding plan_z plan no_votes period period_to all_known known know_frame know_voted know_tasks know_task reads_known reads voted_in all_below all_in
plan_z-period = refl

plan_z-refused : accepted plan_z ≡ false
unfolding accepted
plan_z-refused = and-false-right (well_formed plan_z) (rw plan_z-period)

-- ---- calls

one-pattern : (x : ℕ) → x < 2 ^ 64 → (k : ℕ) → get_or (x ∷ []) k 0 < 2 ^ 64
one-pattern x l zero = l
one-pattern x l (suc k) = lit< tt

-- a call with a plan, a mask, fault bytes and one sensor
call : Plan → ℕ → List ℕ → (x : ℕ) → x < 2 ^ 64 → Call
call p mask faults x l =
    record { plan = p; sensors = x ∷ []; patterns = one-pattern x l; mask = mask; faults = faults; place = 0 ∷ [] }

-- all fault bytes 255
filled : List ℕ
filled = replicate 240 255

-- the patterns of 1, 2, 3 and 6
abbrev one : ℕ
one = 4607182418800017408

abbrev two : ℕ
two = 4611686018427387904

abbrev three : ℕ
three = 4613937818241073152

abbrev six : ℕ
six = 4618441417868443648

-- ---- document 01's run: "masks 0 4 0 0 0 0, fills all 255, sensor values 1, 1, 2, 3, 3, 3"

pub run_k : List Call
run_k =
    call plan_k 0 filled one (lit< tt)
    ∷ call plan_k 4 filled one (lit< tt)
    ∷ call plan_k 0 filled two (lit< tt)
    ∷ call plan_k 0 filled three (lit< tt)
    ∷ call plan_k 0 filled three (lit< tt)
    ∷ call plan_k 0 filled three (lit< tt)
    ∷ []

pub run_k-plan : OnePlan plan_k run_k
unfolding OnePlan run_k call
run_k-plan = (inl refl, (inl refl, (inl refl, (inl refl, (inl refl, (inl refl, tt))))))

pub run_k-premise : Premise plan_k run_k []
unfolding Premise MostGood good_in passed is_frame call_tests call_lengths lengths_ok mask_ok run_k call filled bit how_many
    plan_k plan vote_k no_votes period period_to all_known known know_frame know_voted know_tasks know_task reads_known reads voted_in all_below all_in
run_k-premise = rw plan_k-accepted (λ e. lit< tt, (λ e. lit< tt, (λ e. lit< tt, (λ e. lit< tt, (λ e. lit< tt, (λ e. lit< tt, tt))))))

run_k-single :
    single_places (powered_on plan_k) run_k ≡ (0 ∷ []) ∷ (one ∷ []) ∷ (one ∷ []) ∷ (three ∷ []) ∷ (three ∷ []) ∷ (six ∷ []) ∷ []
unfolding single_places single_next passed is_frame call_tests call_lengths lengths_ok mask_ok run_k call filled powered_on computed single_place setpoint
    run_tasks run_task op_value sum_of fill of_bits to_bits is_nan add plan_k plan vote_k no_votes
run_k-single = rw plan_k-accepted refl

-- the plane values of the listing
pub run_k-listing :
    places (power_on plan_k) run_k
    ≡ (0 ∷ [])
    ∷ (4607182418800017408 ∷ [])
    ∷ (4607182418800017408 ∷ [])
    ∷ (4613937818241073152 ∷ [])
    ∷ (4613937818241073152 ∷ [])
    ∷ (4618441417868443648 ∷ [])
    ∷ []
run_k-listing = (demand3 plan_k plan_k-accepted run_k run_k-plan run_k-premise).setpoints ∙ run_k-single

-- ---- refused calls, a node that tells each neighbour something else, and its recovery

-- node 0's messages to nodes 0, 1 and 2 begin with the bytes 0, 1 and 2
pub varied : List ℕ
varied = set (set (set filled 18 0) 36 1) 54 2

-- node 0 is bad in the second frame and good in the three after it; in the last frame node 1 is bad, and nodes 0 and 2 carry the press
pub mixed : List Call
mixed =
    call plan_k 0 varied one (lit< tt)
    ∷ call plan_z 0 varied one (lit< tt)
    ∷ call plan_k 1 varied one (lit< tt)
    ∷ call plan_k 8 varied one (lit< tt)
    ∷ call plan_k 0 varied three (lit< tt)
    ∷ call plan_k 0 [] three (lit< tt)
    ∷ call plan_k 0 varied three (lit< tt)
    ∷ call plan_k 0 varied two (lit< tt)
    ∷ call plan_k 2 varied two (lit< tt)
    ∷ []

pub mixed-plan : OnePlan plan_k mixed
unfolding OnePlan mixed call
mixed-plan = (inl refl, (inr plan_z-refused, (inl refl, (inl refl, (inl refl, (inl refl, (inl refl, (inl refl, (inl refl, tt)))))))))

pub mixed-premise : Premise plan_k mixed []
unfolding Premise MostGood good_in passed is_frame call_tests call_lengths lengths_ok mask_ok mixed call varied filled bit how_many
    plan_k plan_z plan vote_k no_votes period period_to all_known known know_frame know_voted know_tasks know_task reads_known reads voted_in all_below all_in
mixed-premise =
    rw (plan_k-accepted, plan_z-refused)
    (λ e. lit< tt, (refused, (λ e. lit< tt, (refused, (λ e. lit< tt, (refused, (λ e. lit< tt, (λ e. lit< tt, (λ e. lit< tt, tt)))))))))
  where
    refused : {A : Type 0} → false ≡ true → A
    refused e = absurd (clash e refl)

pub mixed-messages : fault_message (sizes_of plan_k) varied 0 1 ≡ fault_message (sizes_of plan_k) varied 0 2 → ⊥
unfolding fault_message varied filled from plan_k plan
mixed-messages e = omega (arith, ap (λ (l : List ℕ). get_or l 0 0) e)

mixed-calls : call_answers mixed ≡ None ∷ Some InvalidPlan ∷ None ∷ Some MaskOrCount ∷ None ∷ Some WrongLength ∷ None ∷ None ∷ None ∷ []
unfolding refused call_answers call_answer call_tests call_lengths lengths_ok mask_ok mixed call varied filled plan_k plan_z plan vote_k no_votes
mixed-calls = rw (plan_k-accepted, plan_z-refused) refl

pub mixed-refusals : answers (power_on plan_k) mixed ≡ None ∷ Some InvalidPlan ∷ None ∷ Some MaskOrCount ∷ None ∷ Some WrongLength ∷ None ∷ None ∷ None ∷ []
mixed-refusals = (demand3 plan_k plan_k-accepted mixed mixed-plan mixed-premise).refusals ∙ mixed-calls

mixed-good : good_in 0 (take (period plan_k) (masks mixed [])) ≡ true
unfolding good_in masks passed is_frame call_tests call_lengths lengths_ok mask_ok mixed call varied filled bit
    plan_k plan_z plan vote_k no_votes period period_to all_known known know_frame know_voted know_tasks know_task reads_known reads voted_in all_below all_in
mixed-good = rw plan_k-accepted refl

-- node 0 has recovered
pub mixed-memory : memory_of (finally (power_on plan_k) mixed) 0 ≡ single_finally (powered_on plan_k) mixed
unfolding plan_k plan
mixed-memory = (demand3 plan_k plan_k-accepted mixed mixed-plan mixed-premise).memories 0 (lit< tt) mixed-good

-- ---- agreements

silence : List ℕ
silence = replicate 240 0

-- node 1 is bad, and left with the counter of the others; then node 0 is, and tells node 1 another counter and node 2 the right one. Nodes 1 and 2 are good,
-- node 2 alone works
pub apart : List Call
apart = call plan_k 2 (set silence 81 1) 0 (lit< tt) ∷ call plan_k 1 (set silence 37 1) 0 (lit< tt) ∷ []

-- node 0 is bad, and tells the others the right counter, itself another
pub alone : List Call
alone = call plan_k 1 (set (set silence 37 1) 55 1) 0 (lit< tt) ∷ []

-- plan K's: the last column of the listing
pub run_k-agreements : agreements (power_on plan_k) run_k ≡ Ok 3 ∷ Ok 2 ∷ Ok 2 ∷ Ok 2 ∷ Ok 3 ∷ Ok 3 ∷ []
unfolding agreements given unless refused passed if_passed next frame_answer frame_system frame_tests counts_ok mask_ok lengths_ok run_k call filled power_on powered_on system_after memory_after
    good_after count_after frame_agreement agreement_by vote_agreement agreement lesser least computed_by heard mailbox_of fault_memory fault_message backing computed message_of
    bin_of sent_cell before voted voted_counter voted_cell or_own counter_from cell_from counter_in cell_in majority first_shared shared holders holds run_tasks run_task
    op_value sum_of voted_in how_many fill joined from be bytes bit of_bits to_bits is_nan add plan_k plan vote_k no_votes period period_to all_known known know_frame
    know_voted know_tasks know_task reads_known reads all_in all_below
run_k-agreements = rw plan_k-accepted refl

-- the good nodes count, not only those that work: node 1 agrees with 2, node 2 with 3
pub apart-agreements : agreements (power_on plan_k) apart ≡ Ok 2 ∷ Ok 2 ∷ []
unfolding agreements given unless refused passed if_passed next frame_answer frame_system frame_tests counts_ok mask_ok lengths_ok apart call silence power_on powered_on system_after memory_after
    good_after count_after frame_agreement agreement_by vote_agreement agreement lesser least computed_by heard mailbox_of fault_memory fault_message backing computed message_of
    bin_of sent_cell before voted voted_counter voted_cell or_own counter_from cell_from counter_in cell_in majority first_shared shared holders holds run_tasks run_task
    op_value sum_of voted_in how_many fill joined from be bytes bit of_bits to_bits is_nan add plan_k plan vote_k no_votes period period_to all_known known know_frame
    know_voted know_tasks know_task reads_known reads all_in all_below
apart-agreements = rw plan_k-accepted refl

-- and not the bad ones: node 0 would agree with 2
pub alone-agreements : agreements (power_on plan_k) alone ≡ Ok 3 ∷ []
unfolding agreements given unless refused passed if_passed next frame_answer frame_system frame_tests counts_ok mask_ok lengths_ok alone call silence power_on powered_on system_after memory_after
    good_after count_after frame_agreement agreement_by vote_agreement agreement lesser least computed_by heard mailbox_of fault_memory fault_message backing computed message_of
    bin_of sent_cell before voted voted_counter voted_cell or_own counter_from cell_from counter_in cell_in majority first_shared shared holders holds run_tasks run_task
    op_value sum_of voted_in how_many fill joined from be bytes bit of_bits to_bits is_nan add plan_k plan vote_k no_votes period period_to all_known known know_frame
    know_voted know_tasks know_task reads_known reads all_in all_below
alone-agreements = rw plan_k-accepted refl

-- ---- outside the premise

-- nodes 0 and 1 of three are bad, and put out the same
outside : List Call
outside = call plan_k 3 filled one (lit< tt) ∷ []

outside-places : places (power_on plan_k) outside ≡ (18446744073709551615 ∷ []) ∷ []
unfolding passed if_passed places frame_place frame_tests counts_ok mask_ok lengths_ok outside call filled power_on first_handed powered_on place_after handed_on memory_after
    put_out computed_by heard mailbox_of fault_memory fault_message fault_setpoint plane none_more most_held backing computed message_of bin_of sent_cell before voted voted_counter voted_cell or_own counter_from
    cell_from counter_in cell_in setpoint majority first_shared shared holders holds run_tasks run_task op_value sum_of voted_in how_many fill joined from be bytes
    bit of_bits to_bits is_nan add
    plan_k plan vote_k no_votes period period_to all_known known know_frame know_voted know_tasks know_task reads_known reads all_in all_below
outside-places = rw plan_k-accepted refl

outside-single : single_places (powered_on plan_k) outside ≡ (0 ∷ []) ∷ []
unfolding single_places single_next passed is_frame call_tests call_lengths lengths_ok mask_ok outside call filled powered_on computed single_place setpoint
    run_tasks run_task op_value sum_of fill of_bits to_bits is_nan add plan_k plan vote_k no_votes
outside-single = rw plan_k-accepted refl

outside-plan : OnePlan plan_k outside
unfolding OnePlan outside call
outside-plan = (inl refl, tt)

-- the value of setpoint 0 in call k
value_in : ℕ → List (List ℕ) → ℕ
value_in k l = get_or (get_or l k []) 0 0

-- without the premise the demand is false
pub premise-needed : ((p : Plan) → accepted p ≡ true → (cs : List Call) → OnePlan p cs → Tolerated p cs) → ⊥
unfolding value_in
premise-needed demand =
    omega (arith, ap (value_in 0) (sym outside-places ∙ (demand plan_k plan_k-accepted outside outside-plan).setpoints ∙ outside-single))

-- in each frame two of three are good: first nodes 1 and 2, then 0 and 2. Node 0 has not recovered
early : List Call
early = call plan_k 1 filled one (lit< tt) ∷ call plan_k 2 filled one (lit< tt) ∷ []

-- the premise without "and in the R frames before it"
unfoldable pub MostNow : Plan → List Call → Type 0
MostNow p [] = Unit {0}
MostNow p (c ∷ cs) = (is_frame c ≡ true → p.nodes < 2 * how_many (λ i. good_in i (c.mask ∷ [])) p.nodes) × MostNow p cs

early-plan : OnePlan plan_k early
unfolding OnePlan early call
early-plan = (inl refl, (inl refl, tt))

early-now : MostNow plan_k early
unfolding MostNow good_in early call bit how_many plan_k plan
early-now = (λ e. lit< tt, (λ e. lit< tt, tt))

early-places : places (power_on plan_k) early ≡ (0 ∷ []) ∷ (9221120237041090560 ∷ []) ∷ []
unfolding passed if_passed places next frame_system frame_place frame_tests counts_ok mask_ok lengths_ok early call filled power_on first_handed powered_on system_after place_after handed_on
    memory_after good_after count_after put_out computed_by heard mailbox_of fault_memory fault_message fault_setpoint plane none_more most_held backing computed message_of bin_of sent_cell
    before voted voted_counter voted_cell or_own counter_from cell_from counter_in cell_in setpoint majority first_shared shared holders holds run_tasks run_task
    op_value sum_of voted_in how_many fill joined from be bytes bit of_bits to_bits is_nan add plan_k plan vote_k no_votes period period_to all_known known know_frame
    know_voted know_tasks know_task reads_known reads all_in all_below
early-places = rw plan_k-accepted refl

early-single : single_places (powered_on plan_k) early ≡ (0 ∷ []) ∷ (one ∷ []) ∷ []
unfolding single_places single_next passed is_frame call_tests call_lengths lengths_ok mask_ok early call filled powered_on computed single_place setpoint
    run_tasks run_task op_value sum_of fill of_bits to_bits is_nan add plan_k plan vote_k no_votes
early-single = rw plan_k-accepted refl

-- so the R frames are needed
pub recovery-needed : ((p : Plan) → accepted p ≡ true → (cs : List Call) → OnePlan p cs → MostNow p cs → Tolerated p cs) → ⊥
unfolding value_in
recovery-needed demand =
    omega (arith, ap (value_in 1) (sym early-places ∙ (demand plan_k plan_k-accepted early early-plan early-now).setpoints ∙ early-single))

-- ---- request 2026-04: two controllers, and one

pub plan_two : Plan
plan_two = plan 2 vote_k

pub plan_one : Plan
plan_one = plan 1 vote_k

pub plan_two-accepted : accepted plan_two ≡ true
unfolding plan_two
plan_two-accepted = plan-accepted 2 refl refl

pub plan_one-accepted : accepted plan_one ≡ true
unfolding plan_one
plan_one-accepted = plan-accepted 1 refl refl

-- fault bytes of two nodes, all 255, and of one, all 0
filled_two : List ℕ
filled_two = replicate 124 255

silent_one : List ℕ
silent_one = replicate 44 0

-- two that work throughout: inside the premise, and the press gets the single's setpoints
pub run_two : List Call
run_two =
    call plan_two 0 filled_two one (lit< tt)
    ∷ call plan_two 0 filled_two one (lit< tt)
    ∷ call plan_two 0 filled_two two (lit< tt)
    ∷ call plan_two 0 filled_two two (lit< tt)
    ∷ []

run_two-plan : OnePlan plan_two run_two
unfolding OnePlan run_two call
run_two-plan = (inl refl, (inl refl, (inl refl, (inl refl, tt))))

run_two-premise : Premise plan_two run_two []
unfolding Premise MostGood good_in passed is_frame call_tests call_lengths lengths_ok mask_ok run_two call filled_two bit how_many
    plan_two plan vote_k no_votes period period_to all_known known know_frame know_voted know_tasks know_task reads_known reads voted_in all_below all_in
run_two-premise = rw plan_two-accepted (λ e. lit< tt, (λ e. lit< tt, (λ e. lit< tt, (λ e. lit< tt, tt))))

run_two-single : single_places (powered_on plan_two) run_two ≡ (0 ∷ []) ∷ (one ∷ []) ∷ (one ∷ []) ∷ (three ∷ []) ∷ []
unfolding single_places single_next passed is_frame call_tests call_lengths lengths_ok mask_ok run_two call filled_two powered_on computed single_place setpoint
    run_tasks run_task op_value sum_of fill of_bits to_bits is_nan add plan_two plan vote_k no_votes
run_two-single = rw plan_two-accepted refl

pub run_two-listing : places (power_on plan_two) run_two ≡ (0 ∷ []) ∷ (one ∷ []) ∷ (one ∷ []) ∷ (three ∷ []) ∷ []
run_two-listing = (demand3 plan_two plan_two-accepted run_two run_two-plan run_two-premise).setpoints ∙ run_two-single

-- node 0 of two is bad in the second frame, in which neither puts out the remembered 0: the plane hands on what node 0 puts out
pub lost_two : List Call
lost_two = call plan_two 0 filled_two one (lit< tt) ∷ call plan_two 1 filled_two one (lit< tt) ∷ []

lost_two-plan : OnePlan plan_two lost_two
unfolding OnePlan lost_two call
lost_two-plan = (inl refl, (inl refl, tt))

pub lost_two-places : places (power_on plan_two) lost_two ≡ (0 ∷ []) ∷ (18446744073709551615 ∷ []) ∷ []
unfolding passed if_passed places next frame_system frame_place frame_tests counts_ok mask_ok lengths_ok lost_two call filled_two power_on first_handed powered_on system_after place_after
    handed_on memory_after good_after count_after put_out computed_by heard mailbox_of fault_memory fault_message fault_setpoint plane none_more most_held backing computed message_of bin_of
    sent_cell before voted voted_counter voted_cell or_own counter_from cell_from counter_in cell_in setpoint majority first_shared shared holders holds run_tasks run_task
    op_value sum_of voted_in how_many fill joined from be bytes bit of_bits to_bits is_nan add plan_two plan vote_k no_votes period period_to all_known known know_frame
    know_voted know_tasks know_task reads_known reads all_in all_below
lost_two-places = rw plan_two-accepted refl

lost_two-single : single_places (powered_on plan_two) lost_two ≡ (0 ∷ []) ∷ (one ∷ []) ∷ []
unfolding single_places single_next passed is_frame call_tests call_lengths lengths_ok mask_ok lost_two call filled_two powered_on computed single_place setpoint
    run_tasks run_task op_value sum_of fill of_bits to_bits is_nan add plan_two plan vote_k no_votes
lost_two-single = rw plan_two-accepted refl

-- so with two controllers the premise is needed
pub both-needed : ((p : Plan) → accepted p ≡ true → p.nodes ≡ 2 → (cs : List Call) → OnePlan p cs → Tolerated p cs) → ⊥
unfolding value_in plan_two plan
both-needed demand =
    omega (arith, ap (value_in 1) (sym lost_two-places ∙ (demand plan_two plan_two-accepted refl lost_two lost_two-plan).setpoints ∙ lost_two-single))

-- a fault leaves the only controller in frame 0, and the next is frame 1
pub lost_one : List Call
lost_one = call plan_one 1 silent_one one (lit< tt) ∷ []

lost_one-left : (memory_finally plan_one lost_one 0).counter ≡ 0
unfolding finally next passed if_passed frame_system frame_tests counts_ok mask_ok lengths_ok lost_one call silent_one power_on powered_on system_after memory_after fault_memory
    good_after count_after fill be bit plan_one plan vote_k no_votes period period_to all_known known know_frame know_voted know_tasks know_task reads_known reads voted_in all_in all_below
lost_one-left = rw plan_one-accepted refl

lost_one-single : (single_finally (powered_on plan_one) lost_one).counter ≡ 1
unfolding single_finally single_next passed is_frame call_tests call_lengths lengths_ok mask_ok lost_one call silent_one powered_on computed plan_one plan
lost_one-single = rw plan_one-accepted refl

lost_one-apart : Apart plan_one (memory_finally plan_one lost_one 0) (single_finally (powered_on plan_one) lost_one)
unfolding Apart plan_one plan
lost_one-apart = rw (lost_one-left, lost_one-single) (λ e. omega (arith, e))

-- it stays in the other frame, however long it works
pub lost_one-for-ever :
    (later : List Call) → OnePlan plan_one (lost_one ++ later) → all_good later ≡ true →
    Apart plan_one (memory_finally plan_one (lost_one ++ later) 0) (single_finally (powered_on plan_one) (lost_one ++ later))
unfolding plan_one plan
lost_one-for-ever later same good = one-stays-apart plan_one plan_one-accepted refl lost_one later same good lost_one-apart
