-- The exported calls carry a record from call to call in its words: so demand 3 holds of them, and what the plane remembers is right.
use Rattle.std.specs.Prelude.{Option, None, Some}
use mathlib.Core.Path.{◌≡◌, refl, sym, ap, ap₂, ◌∙◌}
use mathlib.Core.Bool.{true}
use mathlib.Core.List.{List, [], ◌∷◌}
use mathlib.Core.Logic.{inl, inr, ⊎_elim}
use Prim.Native.Nat.{ℕ, suc, ◌^◌, ◌<◌}
use native.Mathlib.Omega.{arith}
use lib.Dec.{ltb}
use lib.ListN.{length, get_or}
use lib.Seq.{ext_get_or}
use borrow.Author.Tests.{ltb-true}
use Rattle.array.specs.Index.{from}
use Rattle.array.proofs.TestLaws.{split, and_left}
use Rattle.array.proofs.PlacesLaws.{fill-length, from-length, from_at}
use Rattle.array.proofs.WordLaws.{be-bound}
use Rattle.answer.specs.Tests.{Test, passed, refused, unless, given, if_passed}
use Rattle.answer.proofs.TestLaws.{refused-none, refused-some}
use Rattle.plan.specs.declared.Plan.{Plan}
use Rattle.plan.specs.Limits.{most_nodes}
use Rattle.plan.specs.Known.{period}
use Rattle.plan.specs.Accepted.{accepted}
use Rattle.plan.specs.Sizes.{sizes_of}
use Rattle.plan.proofs.AcceptedLaws.{Shape, shape-of-accepted, bound-small}
use Rattle.plan.proofs.PeriodLaws.{period-bound}
use Rattle.plan_period.specs.Answers.{plan_tests}
use Rattle.plan_words.specs.Words.{plan_of_words}
use Rattle.ballot.specs.Majority.{majority, or_own}
use Rattle.memory.specs.Size.{counter_size}
use Rattle.memory.specs.Node.{computed, counter_in, voted_counter, voted}
use Rattle.memory.proofs.NodeLaws.{powered_on-counter, powered_on-length, computed-small, computed-length}
use Rattle.system.specs.declared.System.{System}
use Rattle.system.specs.System.{zero_system, power_on, system_power_on_answer}
use Rattle.system.specs.Fault.{bad, fault_at, fault_memory}
use Rattle.system.specs.Counts.{count_after, good_after}
use Rattle.system.specs.Frame.{memory_of, computed_by, mailbox_of, memory_after, system_after}
use Rattle.system.specs.FrameCall.{frame_tests, frame_answer, frame_system}
use Rattle.system.specs.Demand.{next, answers, places, finally, OnePlan, Tolerated}
use Rattle.system.proofs.DemandLaws.{demand3}
use Rattle.system.proofs.SeenLaws.{remembered}
use Rattle.system_words.specs.Words.{code_of, if_done, memory_count, memory_words, node_at, system_count, with_system, system_given}
use Rattle.system_words.proofs.HeldLaws.{Fits, Shaped, Held, held-read, stored-held, filled-shaped, filled-held, zero-shaped}
use Rattle.words_demand.specs.Calls.{words_started}
use Rattle.words_demand.specs.Demand.{WordsCall, call_of, calls, words_next, codes, words_places, words_finally, codes_of, OneWords, Demand3OfWords, RememberedOfWords}

-- ---- a frame leaves a record that words can hold

or_own-small : (frames own : ℕ) (o : Option ℕ) → own < frames → or_own frames own o < frames
unfolding or_own
or_own-small frames own None l = l
or_own-small frames own (Some v) l = split (ltb v frames) (λ t. rw t (ltb-true v frames t)) (λ t. rw t l)

period-fits : (p : Plan) → Shape p → period p < 2 ^ 16
period-fits p shape = omega (arith, period-bound p, bound-small p shape)

module _ (p : Plan) (shape : Shape p) (sys : System) (shaped : Shaped sys) (sensors : List ℕ) (mask : ℕ) (faults : List ℕ) (bytes : (k : ℕ) → get_or faults k 0 < 256) where
  voted-fits : (i : ℕ) → i < most_nodes → Fits (voted p (computed_by p sys sensors mask faults i) (mailbox_of p sys sensors mask faults i))
  unfolding voted voted_counter computed_by
  voted-fits i l =
      let m = computed p sensors (memory_of sys i) in
      let small : m.counter < p.frames = computed-small p sensors (memory_of sys i) shape.frames-pos in
      record {
        counter = omega (arith, shape.frames-le, or_own-small p.frames m.counter (majority (counter_in p (mailbox_of p sys sensors mask faults i)) p.nodes) small);
        cells = fill-length _ p.cells m.cells ∙ computed-length p sensors (memory_of sys i) ∙ (shaped.fits i l).cells;
      }

  fault-fits : (i : ℕ) → i < most_nodes → Fits (fault_memory (sizes_of p) faults i (memory_of sys i))
  unfolding fault_memory
  fault-fits i l =
      record {
        counter = be-bound counter_size faults (fault_at (sizes_of p) i) bytes;
        cells = fill-length _ (sizes_of p).cells (memory_of sys i).cells ∙ (shaped.fits i l).cells;
      }

  after-fits : (i : ℕ) → i < most_nodes → Fits (memory_after p sys sensors mask faults i)
  unfolding memory_after
  after-fits i l = split (bad mask i) (λ e. rw e (fault-fits i l)) (λ e. rw e (voted-fits i l))

  good-fits : (i : ℕ) → good_after (period p) mask sys.good i < 2 ^ 16
  unfolding good_after count_after
  good-fits i = split (bad mask i) (λ e. rw e (omega arith)) (λ e. rw e (omega (arith, period-fits p shape)))

  after-shaped : Shaped (system_after p sys sensors mask faults)
  unfolding system_after
  after-shaped = filled-shaped sys _ _ p.nodes _ p.actuators after-fits good-fits shaped

  frame-held : {ws : List ℕ} → Held ws sys → Held (with_system p.nodes (system_after p sys sensors mask faults) ws) (system_after p sys sensors mask faults)
  unfolding system_after after-shaped
  frame-held h = filled-held sys _ _ p.nodes _ p.actuators h after-shaped shape.nodes-high

-- ---- power-on

power_on-shaped : (p : Plan) → Shape p → Shaped (power_on p)
unfolding power_on
power_on-shaped p shape =
    filled-shaped zero_system _ _ p.nodes _ p.actuators (λ j l. record { counter = omega (arith, powered_on-counter p); cells = powered_on-length p shape }) (λ j. period-fits p shape) zero-shaped

start-held : (plan start : List ℕ) → accepted (plan_of_words plan) ≡ true → length start ≡ system_count → Held (words_started plan start) (power_on (plan_of_words plan))
unfolding system_given if_done system_power_on_answer plan_tests given unless refused
start-held plan start accept long =
    rw accept
    (stored-held (power_on (plan_of_words plan)) start long most_nodes (omega arith) (power_on-shaped (plan_of_words plan) (shape-of-accepted (plan_of_words plan) accept)) (λ j a l. absurd (omega arith)))

-- ---- a call, and a list of calls

module _ {ws : List ℕ} {sys : System} (h : Held ws sys) (c : WordsCall) where
  abbrev plan : Plan
  plan = plan_of_words c.plan

  abbrev tests : List Test
  tests = frame_tests plan sys c.sensors c.mask c.faults c.place

  passed-accepted : passed tests ≡ true → accepted plan ≡ true
  unfolding passed frame_tests
  passed-accepted e = and_left (accepted plan) _ e

  call-held : Held (words_next ws c) (next sys (call_of c))
  unfolding words_next next system_given if_done frame_answer frame_system given unless if_passed
  call-held = rw (held-read h) (split (passed tests) (λ e. rw (e, refused-none tests e) (done e)) (λ e. rw (e, (refused-some tests e).1) h))
    where
      done : passed tests ≡ true → Held (with_system plan.nodes (system_after plan sys c.sensors c.mask c.faults) ws) (system_after plan sys c.sensors c.mask c.faults)
      done e = frame-held plan (shape-of-accepted plan (passed-accepted e)) sys h.shaped c.sensors c.mask c.faults c.bytes h

carried-answers : (cs : List WordsCall) {ws : List ℕ} {sys : System} → Held ws sys → codes ws cs ≡ codes_of (answers sys (calls cs))
unfolding codes codes_of code_of answers calls
carried-answers [] h = refl
carried-answers (c ∷ cs) h = ap₂ (λ (x : ℕ) (l : List ℕ). x ∷ l) (rw (held-read h)) (carried-answers cs (call-held h c))

carried-places : (cs : List WordsCall) {ws : List ℕ} {sys : System} → Held ws sys → words_places ws cs ≡ places sys (calls cs)
unfolding words_places places calls
carried-places [] h = refl
carried-places (c ∷ cs) h = ap₂ (λ (x : List ℕ) (l : List (List ℕ)). x ∷ l) (rw (held-read h)) (carried-places cs (call-held h c))

carried-record : (cs : List WordsCall) {ws : List ℕ} {sys : System} → Held ws sys → Held (words_finally ws cs) (finally sys (calls cs))
unfolding words_finally finally calls
carried-record [] h = h
carried-record (c ∷ cs) h = carried-record cs (call-held h c)

-- ---- demand 3

one_of : (plan : List ℕ) (cs : List WordsCall) → OneWords plan cs → OnePlan (plan_of_words plan) (calls cs)
unfolding OneWords OnePlan calls
one_of plan [] one = tt
one_of plan (c ∷ cs) one = (⊎_elim (λ e. inl (ap plan_of_words e)) inr one.0, one_of plan cs one.1)

words_of : {ws : List ℕ} {sys : System} → Held ws sys → (j : ℕ) → j < most_nodes → from 0 ws (node_at j) memory_count ≡ memory_words (memory_of sys j)
unfolding memory_words
words_of {ws} {sys} h j l =
    let long : length (from 0 ws (node_at j) memory_count) ≡ memory_count = from-length 0 ws (node_at j) memory_count in
    ext_get_or 0 (from 0 ws (node_at j) memory_count) (memory_words (memory_of sys j)) (long ∙ ap suc (sym (h.shaped.fits j l).cells))
    (λ k b. let few : k < memory_count = omega (arith, long) in from_at 0 ws (node_at j) memory_count k few ∙ h.memories j l k few)

pub demand3-of-words : Demand3OfWords
demand3-of-words plan accept start long cs one most =
    let t : Tolerated (plan_of_words plan) (calls cs) = demand3 (plan_of_words plan) accept (calls cs) (one_of plan cs one) most in
    let h : Held (words_started plan start) (power_on (plan_of_words plan)) = start-held plan start accept long in
    record {
      setpoints = carried-places cs h ∙ t.setpoints;
      refusals = carried-answers cs h ∙ ap codes_of t.refusals;
      memories = λ i l good. words_of (carried-record cs h) i (omega (arith, (shape-of-accepted (plan_of_words plan) accept).nodes-high)) ∙ ap memory_words (t.memories i l good);
    }

-- ---- what the plane remembers

pub remembered-of-words : RememberedOfWords
remembered-of-words plan accept start long cs one most a l =
    (carried-record cs (start-held plan start accept long)).remembered a (omega (arith, (shape-of-accepted (plan_of_words plan) accept).actuators-le))
    ∙ remembered (plan_of_words plan) accept (calls cs) (one_of plan cs one) most a l
