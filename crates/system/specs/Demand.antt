-- Demand 3, beside the mission's words. A list of frame calls on one system from power-on, each with the record that the one before left.
use Rattle.std.specs.Prelude.{◌≡◌, Bool, true, false, not, cond, ◌&&◌, List, [], ◌∷◌, Option, ◌⊎◌, ℕ, ◌*◌, ◌^◌, ◌<◌, get_or, length, take}
use Rattle.array.specs.Index.{how_many}
use Rattle.std.specs.Result.{result_err}
use Rattle.answer.specs.declared.Refusal.{Refusal}
use Rattle.answer.specs.Tests.{Test, test, passed, refused}
use Rattle.plan.specs.declared.Plan.{Plan}
use Rattle.plan.specs.Known.{period}
use Rattle.plan.specs.Accepted.{accepted}
use Rattle.memory.specs.declared.Memory.{Memory}
use Rattle.memory.specs.Node.{powered_on, computed}
use Rattle.system.specs.declared.System.{System}
use Rattle.system.specs.System.{power_on}
use Rattle.system.specs.Fault.{bad}
use Rattle.system.specs.Frame.{memory_of}
use Rattle.system.specs.Single.{single_place}
use Rattle.system.specs.FrameCall.{mask_ok, lengths_ok, frame_answer, frame_system, frame_place}

-- a frame call: "each with sensors, mask, fault bytes and place of its own", and a plan record of its own
pub record Call : Type 0 where
  pub plan : Plan
  pub sensors : List ℕ
  -- every u64 is below 2^64
  pub patterns : (k : ℕ) → get_or sensors k 0 < 2 ^ 64
  pub mask : ℕ
  pub faults : List ℕ
  pub place : List ℕ

-- "Here refusals follow from plan record, mask and lengths alone"
module _ (c : Call) where
  unfoldable pub call_lengths : Bool
  call_lengths = lengths_ok c.plan (length c.sensors) (length c.faults) (length c.place)

  unfoldable pub call_tests : List Test
  call_tests = test 7 (accepted c.plan) ∷ test 9 (mask_ok c.plan c.mask) ∷ test 8 call_lengths ∷ []

  unfoldable pub call_answer : Option Refusal
  call_answer = refused call_tests

  -- "A frame is a frame call not refused"
  unfoldable pub is_frame : Bool
  is_frame = passed call_tests

-- ---- the press: what each call is refused with, if it is; what stands in its place afterwards; and the record after the list

unfoldable pub next : System → Call → System
next sys c = frame_system c.plan sys c.sensors c.mask c.faults c.place

unfoldable pub answers : System → List Call → List (Option Refusal)
answers sys [] = []
answers sys (c ∷ cs) = result_err (frame_answer c.plan sys c.sensors c.mask c.faults c.place) ∷ answers (next sys c) cs

unfoldable pub places : System → List Call → List (List ℕ)
places sys [] = []
places sys (c ∷ cs) = frame_place c.plan sys c.sensors c.mask c.faults c.place ∷ places (next sys c) cs

unfoldable pub finally : System → List Call → System
finally sys [] = sys
finally sys (c ∷ cs) = finally (next sys c) cs

-- ---- the single controller: "From each frame call that isn't refused it gets the plan and the sensors, and nothing else"

unfoldable pub single_next : Memory → Call → Memory
single_next s c = cond (is_frame c) (computed c.plan c.sensors s) s

unfoldable pub single_places : Memory → List Call → List (List ℕ)
single_places s [] = []
single_places s (c ∷ cs) = cond (is_frame c) (single_place c.plan (single_next s c) c.place) c.place ∷ single_places (single_next s c) cs

unfoldable pub single_finally : Memory → List Call → Memory
single_finally s [] = s
single_finally s (c ∷ cs) = single_finally (single_next s c) cs

unfoldable pub call_answers : List Call → List (Option Refusal)
call_answers [] = []
call_answers (c ∷ cs) = call_answer c ∷ call_answers cs

-- ---- "in each frame of the list more than half of the controllers were good in it and in the R frames before it, or in all before it if fewer"

-- the masks of the frames of a list, the newest first, on top of those before it
unfoldable pub masks : List Call → List ℕ → List ℕ
masks [] past = past
masks (c ∷ cs) past = masks cs (cond (is_frame c) (c.mask ∷ past) past)

-- "who is good in it is read from its mask": node i is good in all these frames
unfoldable pub good_in : ℕ → List ℕ → Bool
good_in i [] = true
good_in i (mask ∷ past) = not (bad mask i) && good_in i past

unfoldable pub MostGood : Plan → ℕ → List ℕ → Type 0
MostGood p mask past = p.nodes < 2 * how_many (λ i. good_in i (mask ∷ take (period p) past)) p.nodes

unfoldable pub Premise : Plan → List Call → List ℕ → Type 0
Premise p [] past = Unit {0}
Premise p (c ∷ cs) past = (is_frame c ≡ true → MostGood p c.mask past) × Premise p cs (cond (is_frame c) (c.mask ∷ past) past)

-- "all with the record of one accepted plan (or with one that 7 refuses)"
unfoldable pub OnePlan : Plan → List Call → Type 0
OnePlan p [] = Unit {0}
OnePlan p (c ∷ cs) = ((c.plan ≡ p) ⊎ (accepted c.plan ≡ false)) × OnePlan p cs

-- ---- what then holds, "whatever the others held, whatever they sent each neighbour and whatever setpoints they put out"

pub record Tolerated (p : Plan) (cs : List Call) : Type 0 where
  -- "each frame's voted setpoints equal the single controller's in that frame"; a refused call leaves its place untouched
  pub setpoints : places (power_on p) cs ≡ single_places (powered_on p) cs
  -- which calls are refused, and with what, follows from plan record, mask and lengths
  pub refusals : answers (power_on p) cs ≡ call_answers cs
  -- "the whole memory of each controller that has been good for the last R frames (or for all, if fewer) equals the single controller's"
  pub memories :
      (i : ℕ) →
      i < p.nodes →
      good_in i (take (period p) (masks cs [])) ≡ true →
      memory_of (finally (power_on p) cs) i ≡ single_finally (powered_on p) cs

abbrev pub Demand3 : Type 0
Demand3 = (p : Plan) → accepted p ≡ true → (cs : List Call) → OnePlan p cs → Premise p cs [] → Tolerated p cs
