-- Demand 3 of the exported calls, beside the mission's words: a list of `ragbasalt_system_frame` calls on one system's words, the first on those that `ragbasalt_system_power_on` wrote, each other on
-- those that the one before left. What a call answers and writes is what its contract cites (Calls.antt); who is good, the premise and the single controller are those of `Demand3`.
use Rattle.std.specs.Prelude.{◌≡◌, true, false, List, [], ◌∷◌, ◌⊎◌, ℕ, ◌+◌, ◌^◌, ◌<◌, length, get_or, take, Option}
use Rattle.array.specs.Index.{from}
use Rattle.answer.specs.declared.Refusal.{Refusal}
use Rattle.plan.specs.Known.{period}
use Rattle.plan.specs.Accepted.{accepted}
use Rattle.plan_words.specs.Words.{plan_of_words}
use Rattle.memory.specs.Node.{powered_on, setpoint}
use Rattle.system.specs.Demand.{Call, single_places, single_finally, call_answers, masks, good_in, Premise}
use Rattle.system_words.specs.Words.{code_with, code_of, memory_count, memory_words, node_at, handed_at, system_count}
use Rattle.words_demand.specs.Calls.{words_started, framed_by, words_framed, place_framed}

-- a call of `ragbasalt_system_frame`, all but the system's words
pub record WordsCall : Type 0 where
  pub plan : List ℕ
  pub sensors : List ℕ
  -- every uint64_t is below 2^64, every uint8_t below 256
  pub patterns : (k : ℕ) → get_or sensors k 0 < 2 ^ 64
  pub mask : ℕ
  pub faults : List ℕ
  pub bytes : (k : ℕ) → get_or faults k 0 < 256
  pub place : List ℕ

-- the frame call that it makes
abbrev pub call_of : WordsCall → Call
call_of c =
    record {
      plan = plan_of_words c.plan;
      sensors = c.sensors;
      patterns = c.patterns;
      mask = c.mask;
      faults = c.faults;
      place = c.place;
    }

unfoldable pub calls : List WordsCall → List Call
calls [] = []
calls (c ∷ cs) = call_of c ∷ calls cs

-- ---- what the calls leave, each on the words that the one before left

unfoldable pub words_next : List ℕ → WordsCall → List ℕ
words_next ws c = words_framed c.plan ws c.sensors c.mask c.faults c.place

unfoldable pub codes : List ℕ → List WordsCall → List ℕ
codes ws [] = []
codes ws (c ∷ cs) = code_of (framed_by c.plan ws c.sensors c.mask c.faults c.place) ∷ codes (words_next ws c) cs

unfoldable pub words_places : List ℕ → List WordsCall → List (List ℕ)
words_places ws [] = []
words_places ws (c ∷ cs) = place_framed c.plan ws c.sensors c.mask c.faults c.place ∷ words_places (words_next ws c) cs

unfoldable pub words_finally : List ℕ → List WordsCall → List ℕ
words_finally ws [] = ws
words_finally ws (c ∷ cs) = words_finally (words_next ws c) cs

unfoldable pub codes_of : List (Option Refusal) → List ℕ
codes_of [] = []
codes_of (refused ∷ later) = code_with refused ∷ codes_of later

-- ---- each call has the plan's words, or words that 7 refuses

unfoldable pub OneWords : List ℕ → List WordsCall → Type 0
OneWords plan [] = Unit {0}
OneWords plan (c ∷ cs) = ((c.plan ≡ plan) ⊎ (accepted (plan_of_words c.plan) ≡ false)) × OneWords plan cs

-- ---- what then holds

pub record WordsTolerated (plan start : List ℕ) (cs : List WordsCall) : Type 0 where
  -- "each frame's voted setpoints equal the single controller's in that frame"; a refused call leaves its place untouched
  pub setpoints : words_places (words_started plan start) cs ≡ single_places (powered_on (plan_of_words plan)) (calls cs)
  -- which calls are refused, and with what, follows from the plan's words, mask and lengths
  pub refusals : codes (words_started plan start) cs ≡ codes_of (call_answers (calls cs))
  -- of "each controller that has been good for the last R frames (or for all, if fewer)" the 33 words are the single controller's
  pub memories :
      (i : ℕ) →
      i < (plan_of_words plan).nodes →
      good_in i (take (period (plan_of_words plan)) (masks (calls cs) [])) ≡ true →
      from 0 (words_finally (words_started plan start) cs) (node_at i) memory_count ≡ memory_words (single_finally (powered_on (plan_of_words plan)) (calls cs))

-- for any words that `ragbasalt_system_power_on` finds
abbrev pub Demand3OfWords : Type 0
Demand3OfWords =
    (plan : List ℕ) → accepted (plan_of_words plan) ≡ true → (start : List ℕ) → length start ≡ system_count →
    (cs : List WordsCall) → OneWords plan cs → Premise (plan_of_words plan) (calls cs) [] → WordsTolerated plan start cs

-- ---- request 2026-06: under the same premise the first A of the 8 remembered words are the single controller's setpoints after every list, the empty one too

abbrev pub RememberedOfWords : Type 0
RememberedOfWords =
    (plan : List ℕ) → accepted (plan_of_words plan) ≡ true → (start : List ℕ) → length start ≡ system_count →
    (cs : List WordsCall) → OneWords plan cs → Premise (plan_of_words plan) (calls cs) [] →
    (a : ℕ) → a < (plan_of_words plan).actuators →
    get_or (words_finally (words_started plan start) cs) (handed_at + a) 0 ≡ setpoint (plan_of_words plan) (single_finally (powered_on (plan_of_words plan)) (calls cs)) a
