-- What holds between two frame calls: the record's good counts are what the masks give, and each node is by its count what `Node` says.
use mathlib.Core.Path.{◌≡◌, refl, sym, ap, ◌∙◌}
use mathlib.Core.Bool.{Bool, true, not}
use mathlib.Core.List.{List, [], ◌∷◌, ◌++◌}
use Prim.Native.Nat.{ℕ, zero, suc, ◌+◌, ◌*◌, ◌%◌, ◌≤◌, ◌<◌, min}
use native.Mathlib.Omega.{arith}
use native.Mathlib.Nat.{add-zero, zero-mod, mod-add-mod, mod-eq_of_lt, mod-lt}
use lib.Dec.{eqb, ltb}
use lib.ListN.{length, get_or, take, length-append}
use borrow.Author.Tests.{ltb-true, ltb-false, eqb-true, eq-eqb, not-true}
use Rattle.array.specs.Index.{how_many}
use Rattle.array.proofs.IndexLaws.{how_many-le}
use Rattle.array.proofs.TestLaws.{split, and_left, and_right, and_both}
use Rattle.array.proofs.PlacesLaws.{fill-length, fill-in, fill-same}
use Rattle.plan.specs.declared.Plan.{Plan}
use Rattle.plan.specs.Known.{known, period}
use Rattle.plan.specs.Accepted.{accepted}
use Rattle.plan.proofs.AcceptedLaws.{Shape, shape-of-accepted}
use Rattle.memory.specs.declared.Memory.{Memory}
use Rattle.memory.specs.Node.{zero_memory, powered_on, computed, before, setpoint}
use Rattle.task.proofs.TaskLaws.{Agree, Bounded}
use Rattle.memory.proofs.NodeLaws.{powered_on-counter, powered_on-small, powered_on-length, powered_on-bounded, computed-next}
use Rattle.memory.proofs.VoteLaws.{before-next}
use Rattle.system.specs.declared.System.{System}
use Rattle.system.specs.System.{zero_system, first_handed, power_on}
use Rattle.system.specs.Fault.{bad}
use Rattle.system.specs.Counts.{is_working, good_count}
use Rattle.system.specs.Frame.{memory_of, good_of, handed_of, memory_after, handed_on, system_after, place_after, agreement_by}
use Rattle.system.specs.Single.{single_place}
use Rattle.system.specs.Demand.{good_in, MostGood}
use Rattle.system.proofs.RecoveryLaws.{SameRecovery, period-same}
use Rattle.system.proofs.CountLaws.{count-least, count-since, Counts, counts_start, count-after, counts-after}
use Rattle.system.proofs.FrameLaws.{Single, single-next, Recovering, Node, node-whole, MostWork, agreement-least, memory-after, node-after, handed-single, single-same, node-same}

-- ---- between two calls

-- the system, the single controller, and the masks of the frames so far, the newest first
pub record State (p : Plan) (sys : System) (s : Memory) (past : List ℕ) : Type 0 where
  pub memories : p.nodes ≤ length sys.memories
  pub counts : Counts p sys past
  pub single : Single p s
  -- the single has run every frame since power-on
  pub frames : s.counter ≡ length past % p.frames
  pub node : (i : ℕ) → i < p.nodes → Node p s (memory_of sys i) (good_of sys i)
  -- the plane remembers the single's setpoints, from power-on
  pub seen : p.actuators ≤ length sys.seen.handed
  pub handed : (a : ℕ) → a < p.actuators → handed_of sys a ≡ setpoint p s a

-- "at power-on that is the actuator's cell's initial pattern": the single's setpoint there
first-handed : (p : Plan) (a : ℕ) → first_handed p a ≡ setpoint p (powered_on p) a
unfolding first_handed setpoint powered_on
first-handed p a = refl

pub state-start : (p : Plan) → accepted p ≡ true → State p (power_on p) (powered_on p) []
unfolding power_on good_count
state-start p accept =
    record {
      memories = omega (arith, shape.nodes-high, fill-length (λ i. powered_on p) p.nodes zero_system.memories);
      counts = counts;
      single =
          record {
            counter = powered_on-small p shape;
            size = omega (arith, shape.cells-le, powered_on-length p shape);
            bounded = powered_on-bounded p shape;
          };
      frames = powered_on-counter p ∙ sym (zero-mod p.frames);
      node = λ i l.
          rw (fill-in (λ k. powered_on p) p.nodes zero_system.memories i zero_memory l (omega (arith, shape.nodes-high)), counts.count i l)
          (node-whole p (powered_on p));
      seen = omega (arith, shape.actuators-le, fill-length (first_handed p) p.actuators zero_system.seen.handed);
      handed = λ a l. fill-in (first_handed p) p.actuators zero_system.seen.handed a 0 l (omega (arith, shape.actuators-le)) ∙ first-handed p a;
    }
  where
    shape : Shape p
    shape = shape-of-accepted p accept

    counts : Counts p (power_on p) []
    counts = counts_start p accept

-- a node that was good in the last R frames, or in all if fewer, has the full count, and the single's memory
full-count :
    (p : Plan) (sys : System) (s : Memory) (past : List ℕ) → State p sys s past →
    (i : ℕ) → i < p.nodes → good_in i (take (period p) past) ≡ true → good_of sys i ≡ period p
full-count p sys s past st i l g =
    omega (arith, (st.node i l).most, st.counts.count i l, count-least (period p) i (period p) past (omega arith) g)

pub state-whole :
    (p : Plan) (sys : System) (s : Memory) (past : List ℕ) → State p sys s past →
    (i : ℕ) → i < p.nodes → good_in i (take (period p) past) ≡ true → memory_of sys i ≡ s
state-whole p sys s past st i l g = (st.node i l).whole (full-count p sys s past st i l g)

-- ---- a node that was good in the last frames, at least one, and bad in the one before

-- the counter is the single's, and so is each cell that ks knows
pub record Trusted (ks : List Bool) (m s : Memory) : Type 0 where
  pub counter : m.counter ≡ s.counter
  pub cells : Agree ks m.cells s.cells

whole-trusted : (ks : List Bool) (m s : Memory) → m ≡ s → Trusted ks m s
whole-trusted ks m s e = record { counter = ap (λ (x : Memory). x.counter) e; cells = λ x k. ap (λ (y : Memory). get_or y.cells x 0) e }

-- a counter and the number of frames since give the first of these frames
first-unique : (p : Plan) (c f g : ℕ) → f < p.frames → g < p.frames → (f + c) % p.frames ≡ (g + c) % p.frames → f ≡ g
first-unique p zero f g fl gl e = sym (mod-eq_of_lt fl) ∙ rw (add-zero f, add-zero g) at e ∙ mod-eq_of_lt gl
first-unique p (suc c) f g fl gl e = first-unique p c f g fl gl (sym (back f) ∙ ap (before p) e ∙ back g)
  where
    back : (h : ℕ) → before p ((h + suc c) % p.frames) ≡ (h + c) % p.frames
    back h =
        let sum : h + suc c ≡ h + c + 1 = omega arith in
        rw (sum, ← (mod-add-mod (h + c) p.frames 1)) (before-next p ((h + c) % p.frames) (mod-lt (h + c) (omega arith)))

module _
    (p : Plan) (sys : System) (s : Memory) (recent : List ℕ) (mask : ℕ) (past : List ℕ)
    (st : State p sys s (recent ++ (mask ∷ past)))
    (i : ℕ) (l : i < p.nodes) (good : good_in i recent ≡ true) (some : 0 < length recent) (fault : bad mask i ≡ true)
  where
    since : good_of sys i ≡ min (period p) (length recent)
    since = st.counts.count i l ∙ count-since (period p) i recent mask past good fault

    -- its first good frame, in which the single ran the plan's frame of that number modulo F
    abbrev first : ℕ
    first = length (mask ∷ past) % p.frames

    first-is : (f : ℕ) → f < p.frames → s.counter ≡ (f + length recent) % p.frames → f ≡ first
    first-is f fl e =
        let sum : length (mask ∷ past) + length recent ≡ length (recent ++ (mask ∷ past)) = simp length-append (omega arith) in
        first-unique p (length recent) f first fl (mod-lt _ (omega arith))
        (sym e ∙ st.frames ∙ rw (mod-add-mod, sum))

    pub state-trusted : Trusted (known p first (length recent)) (memory_of sys i) s
    state-trusted =
        split (ltb (length recent) (period p))
        (λ t.
        let few : length recent < period p = ltb-true _ _ t in
        let c : good_of sys i ≡ length recent = omega (arith, since) in
        let r : Recovering p s (memory_of sys i) (length recent) = rw c at ((st.node i l).part (omega arith) (omega arith)) in
        let f : r.first ≡ first = first-is r.first r.first_small r.ran in
        record { counter = r.counter; cells = rw f at r.agree })
        (λ t. whole-trusted _ _ _ ((st.node i l).whole (omega (arith, since, ltb-false (length recent) (period p) t))))

-- ---- a frame

-- the single's counter is the number of frames, modulo F
pub counter-after :
    (p : Plan) (sensors : List ℕ) (s : Memory) (mask : ℕ) (past : List ℕ) →
    s.counter < p.frames →
    s.counter ≡ length past % p.frames →
    (computed p sensors s).counter ≡ length (mask ∷ past) % p.frames
counter-after p sensors s mask past l e =
    let one : length past + 1 ≡ length (mask ∷ past) = omega arith in
    computed-next p sensors s l ∙ rw (e, mod-add-mod, one)

module _
    (p : Plan) (accept : accepted p ≡ true) (sys : System) (s : Memory) (past : List ℕ) (st : State p sys s past)
    (sensors : List ℕ) (mask : ℕ) (faults : List ℕ) (patterns : Bounded sensors) (good : MostGood p mask past)
  where
    -- a node that is good in it and was in the R frames before it works
    works : (j : ℕ) → j < p.nodes → good_in j (mask ∷ take (period p) past) ≡ true → is_working (period p) mask sys.good j ≡ true
    unfolding is_working good_in
    works j l g =
        and_both (and_left (not (bad mask j)) (good_in j (take (period p) past)) g)
        (eq-eqb _ _ (full-count p sys s past st j l (and_right (not (bad mask j)) _ g)))

    -- more than half work
    pub most-work : p.nodes < 2 * how_many (is_working (period p) mask sys.good) p.nodes
    unfolding MostGood
    most-work =
        omega (arith, (shape-of-accepted p accept).nodes-low, good, how_many-le (λ j. good_in j (mask ∷ take (period p) past)) (is_working (period p) mask sys.good) p.nodes works)

    working : MostWork p sys s mask
    unfolding is_working
    working =
        record {
          work = is_working (period p) mask sys.good;
          good = λ j l w. not-true (bad mask j) (and_left _ (eqb (good_of sys j) (period p)) w);
          holds = λ j l w. (st.node j l).whole (eqb-true _ _ (and_right (not (bad mask j)) _ w));
          half = most-work;
        }

    pub agreement-working : (i : ℕ) → how_many (is_working (period p) mask sys.good) p.nodes ≤ agreement_by p sys sensors mask faults i
    unfolding is_working working
    agreement-working i = agreement-least p accept sys s sensors mask faults st.single patterns working i

    handed : (a : ℕ) → handed_on p sys sensors mask faults a ≡ setpoint p (computed p sensors s) a
    handed a = handed-single p accept sys s sensors mask faults st.single patterns working a

    pub state-after : State p (system_after p sys sensors mask faults) (computed p sensors s) (mask ∷ past)
    unfolding system_after
    state-after =
        record {
          memories = omega (arith, st.memories, fill-length (memory_after p sys sensors mask faults) p.nodes sys.memories);
          counts = counts-after p sys past st.counts sensors mask faults;
          single = single-next p (shape-of-accepted p accept) sensors s patterns st.single;
          frames = counter-after p sensors s mask past st.single.counter st.frames;
          node = λ i l.
              rw (memory-after p sys sensors mask faults st.memories i l, count-after p sys past st.counts sensors mask faults i l)
              (node-after p accept sys s sensors mask faults st.single patterns working i (st.node i l));
          seen = omega (arith, st.seen, fill-length (handed_on p sys sensors mask faults) p.actuators sys.seen.handed);
          handed = λ a l.
              fill-in (handed_on p sys sensors mask faults) p.actuators sys.seen.handed a 0 l (omega (arith, st.seen)) ∙ handed a;
        }

    -- the press gets the single's setpoints
    pub place_after_lem : (place : List ℕ) → place_after p sys sensors mask faults place ≡ single_place p (computed p sensors s) place
    unfolding place_after single_place
    place_after_lem place = fill-same _ (setpoint p (computed p sensors s)) p.actuators place (λ a l. handed a)

-- ---- a plan with the same recovery

counts_same : (p q : Plan) → SameRecovery p q → (sys : System) (past : List ℕ) → Counts p sys past → Counts q sys past
counts_same p q same sys past h =
    record {
      size = omega (arith, h.size, same.nodes);
      count = λ i l. h.count i (omega (arith, same.nodes)) ∙ rw (period-same p q same);
    }

setpoint-same : (p q : Plan) → SameRecovery p q → (s : Memory) (a : ℕ) → setpoint p s a ≡ setpoint q s a
unfolding setpoint
setpoint-same p q same s a = rw same.outputs

pub most_good-same : (p q : Plan) → SameRecovery p q → (mask : ℕ) (past : List ℕ) → MostGood p mask past → MostGood q mask past
unfolding MostGood
most_good-same p q same mask past h = rw (← (period-same p q same), ← same.nodes) h

pub state-same : (p q : Plan) → SameRecovery p q → (sys : System) (s : Memory) (past : List ℕ) → State p sys s past → State q sys s past
state-same p q same sys s past st =
    record {
      memories = omega (arith, st.memories, same.nodes);
      counts = counts_same p q same sys past st.counts;
      single = single-same p q same st.single;
      frames = st.frames ∙ rw same.frames;
      node = λ i l. node-same p q same (st.node i (omega (arith, same.nodes)));
      seen = omega (arith, st.seen, same.actuators);
      handed = λ a l. st.handed a (omega (arith, same.actuators)) ∙ setpoint-same p q same s a;
    }
