-- Request 2026-04: one and two controllers. What holds of such a press beside demand 3; the laws are in AtMostTwoLaws. Request 2026-06: what the plane hands on there.
use Rattle.std.specs.Prelude.{◌≡◌, Bool, true, cond, ◌↔◌, List, [], ◌∷◌, ◌++◌, ℕ, ◌%◌, ◌≤◌, ◌<◌, eqb, ltb, get_or, unwrap_or}
use Rattle.array.specs.Index.{all_in}
use Rattle.plan.specs.declared.Plan.{Plan}
use Rattle.plan.specs.Accepted.{accepted}
use Rattle.memory.specs.declared.Memory.{Memory}
use Rattle.memory.specs.Node.{powered_on}
use Rattle.ballot.specs.Majority.{holders}
use Rattle.system.specs.declared.System.{System}
use Rattle.system.specs.System.{power_on}
use Rattle.system.specs.Frame.{memory_of, handed_of, put_out}
use Rattle.system.specs.Demand.{Call, finally, single_finally, masks, good_in, Premise, OnePlan}

-- the masks of all frames of a list are 0
unfoldable pub all_good : List Call → Bool
all_good cs = all_in (λ mask. eqb mask 0) (masks cs [])

-- "More than half of two is two, so on such a press a setpoint is vouched for only while both work": demand 3's premise holds of a list exactly if no node is bad in
-- any of its frames
abbrev pub Vouched : Type 0
Vouched = (p : Plan) → accepted p ≡ true → p.nodes ≤ 2 → (cs : List Call) → OnePlan p cs → Premise p cs [] ↔ (all_good cs ≡ true)

-- node i's memory after a list of calls from power-on
abbrev pub memory_finally : Plan → List Call → ℕ → Memory
memory_finally p cs i = memory_of (finally (power_on p) cs) i

-- every u8 is below 256
unfoldable pub Bytes : List Call → Type 0
Bytes [] = Unit {0}
Bytes (c ∷ cs) = ((k : ℕ) → get_or c.faults k 0 < 256) × Bytes cs

-- No vote puts anything right. After the calls `earlier`, whatever their faults left in node i, come `later`, in whose frames it is good: its memory goes on as that of a
-- single controller that began with what the node had
abbrev pub NoRepair : Type 0
NoRepair =
    (p : Plan) → accepted p ≡ true → p.nodes ≤ 2 → (earlier later : List Call) → OnePlan p (earlier ++ later) → Bytes earlier →
    (i : ℕ) → i < p.nodes → good_in i (masks later []) ≡ true →
    memory_finally p (earlier ++ later) i ≡ single_finally (memory_finally p earlier i) later

-- two memories are in different frames of the plan: F is then at least 2
unfoldable pub Apart : Plan → Memory → Memory → Type 0
Apart p m s = m.counter % p.frames ≡ s.counter % p.frames → ⊥

-- so a counter that a fault left in another frame than the single controller's is never in the same again while the node stays good
abbrev pub StaysApart : Type 0
StaysApart =
    (p : Plan) → accepted p ≡ true → p.nodes ≤ 2 → (earlier later : List Call) → OnePlan p (earlier ++ later) →
    (i : ℕ) → i < p.nodes → good_in i (masks later []) ≡ true →
    Apart p (memory_finally p earlier i) (single_finally (powered_on p) earlier) →
    Apart p (memory_finally p (earlier ++ later) i) (single_finally (powered_on p) (earlier ++ later))

-- of one controller: in every later list of frames with mask 0
abbrev pub OneStaysApart : Type 0
OneStaysApart =
    (p : Plan) → accepted p ≡ true → p.nodes ≡ 1 → (earlier later : List Call) → OnePlan p (earlier ++ later) → all_good later ≡ true →
    Apart p (memory_finally p earlier 0) (single_finally (powered_on p) earlier) →
    Apart p (memory_finally p (earlier ++ later) 0) (single_finally (powered_on p) (earlier ++ later))

-- "Of tied values the remembered one wins; if it isn't among them, the old rule decides": of one or two that is, for actuator a, the remembered value where a node puts it
-- out, good or bad, else what node 0 puts out
module _ (p : Plan) (sys : System) (sensors : List ℕ) (mask : ℕ) (faults : List ℕ) where
  unfoldable pub remembered_or_first : ℕ → ℕ
  remembered_or_first a =
      cond (ltb 0 (holders (put_out p sys sensors mask faults a) p.nodes (handed_of sys a)))
      (handed_of sys a)
      (unwrap_or (put_out p sys sensors mask faults a 0) 0)
