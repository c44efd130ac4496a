-- A run between two lines as words: its system's, its single controller's, its period and the number of its next frame; its plan is handed over by itself. Any words are some run.
use Rattle.std.specs.Prelude.{List, ℕ, ◌+◌, get_or, set, Result}
use Rattle.answer.specs.declared.Refusal.{Refusal}
use Rattle.plan.specs.declared.Plan.{Plan}
use Rattle.lines.specs.declared.Run.{Run}
use Rattle.system_words.specs.Words.{if_done, memory_count, system_count, memory_at, with_memory, system_of_words, with_system}

abbrev pub single_at : ℕ
single_at = system_count

abbrev pub period_at : ℕ
period_at = single_at + memory_count

abbrev pub frame_at : ℕ
frame_at = period_at + 1

unfoldable pub run_of : Plan → List ℕ → Run
run_of p ws =
    record { plan = p; period = get_or ws period_at 0; system = system_of_words ws; single = memory_at ws single_at; frame = get_or ws frame_at 0 }

-- words with those of a run of a plan of n nodes; all others stay
unfoldable pub with_run : ℕ → Run → List ℕ → List ℕ
with_run n r ws = set (set (with_memory r.single single_at (with_system n r.system ws)) period_at r.period) frame_at r.frame

-- a run's words after a call that gives this, and this run
unfoldable pub run_given : {A : Type 0} → Result A Refusal → ℕ → Run → List ℕ → List ℕ
run_given given n r ws = if_done given (with_run n r ws) ws
