-- What the exported calls on a system give, refused or not, by the plan's words and the system's: the contracts of `ragbasalt_system_power_on` and `ragbasalt_system_frame` cite these, and so does demand 3
-- of them.
use Rattle.std.specs.Prelude.{List, ℕ, Result}
use Rattle.answer.specs.declared.Refusal.{Refusal}
use Rattle.plan.specs.Limits.{most_nodes}
use Rattle.plan_words.specs.Words.{plan_of_words}
use Rattle.system.specs.declared.System.{System}
use Rattle.system.specs.System.{power_on, system_power_on_answer}
use Rattle.system.specs.FrameCall.{frame_answer, frame_system, frame_place}
use Rattle.system_words.specs.Words.{system_of_words, system_given}

-- ---- power-on

abbrev pub started_by : List ℕ → Result System Refusal
started_by plan = system_power_on_answer (plan_of_words plan)

-- a system's words after it, whatever stood there
abbrev pub words_started : List ℕ → List ℕ → List ℕ
words_started plan ws = system_given (started_by plan) most_nodes (power_on (plan_of_words plan)) ws

-- ---- a frame

module _ (plan ws sensors : List ℕ) (mask : ℕ) (faults place : List ℕ) where
  abbrev pub framed_by : Result ℕ Refusal
  framed_by = frame_answer (plan_of_words plan) (system_of_words ws) sensors mask faults place

  -- the system's words after it
  abbrev pub words_framed : List ℕ
  words_framed = system_given framed_by (plan_of_words plan).nodes (frame_system (plan_of_words plan) (system_of_words ws) sensors mask faults place) ws

  abbrev pub place_framed : List ℕ
  place_framed = frame_place (plan_of_words plan) (system_of_words ws) sensors mask faults place
