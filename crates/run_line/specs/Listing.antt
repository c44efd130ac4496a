-- Document 01, 'The run program': what is printed, from the bytes of the two files. A run's lines are blocks of one size: the first that is not of form is
-- refused, and before it blocks and line feeds count the same.
use Rattle.std.specs.Prelude.{Bool, true, false, cond, ◌&&◌, List, [], ◌∷◌, ◌++◌, ℕ, zero, suc, ◌+◌, ◌-◌, ◌*◌, eqb, ltb, length, take, drop, replicate, Option, None, Some, unwrap_or}
use Rattle.array.specs.Index.{how_many, joined}
use Rattle.column.specs.Row.{row}
use Rattle.answer.specs.declared.Refusal.{Refusal}
use Rattle.answer.specs.declared.Refusal.TheVariants.{RunLine}
use Rattle.plan.specs.declared.Plan.{Plan}
use Rattle.plan.specs.Known.{period}
use Rattle.plan.specs.Sizes.{sizes_of}
use Rattle.plan_grammar.specs.Meant.{plan_of}
use Rattle.plan_grammar.specs.Refused.{text_refusal}
use Rattle.memory.specs.declared.Memory.{Memory}
use Rattle.memory.specs.Node.{powered_on, computed}
use Rattle.system.specs.declared.System.{System}
use Rattle.system.specs.System.{power_on}
use Rattle.system.specs.Fault.{faults_size}
use Rattle.system.specs.Counts.{is_working}
use Rattle.system.specs.Frame.{memory_of, system_after, place_after, frame_agreement}
use Rattle.system.specs.CountCalls.{same_memory}
use Rattle.run_line.specs.Line.{run_line_size, mask_in, fill_in, patterns_in, run_numbers, printed_widths, refusal_line}

-- "10: .. or line 100,001"
abbrev pub most_run_lines : ℕ
most_run_lines = 100000

-- how many of the first n lines stand before the first that fails the test
unfoldable pub leading : (ℕ → Bool) → ℕ → ℕ
leading q zero = 0
leading q (suc n) = cond (eqb (leading q n) n && q n) (suc n) (leading q n)

abbrev pub is_some : Option (List ℕ) → Bool
is_some None = false
is_some (Some l) = true

-- the numbers of the line of a frame, from its bytes, if it is not refused: 10
unfoldable pub line_numbers : Plan → ℕ → List ℕ → Option (List ℕ)
line_numbers p frame line = cond (ltb frame most_run_lines) (run_numbers p.nodes p.sensors line) None

-- ---- one frame, from a run line's numbers l

module _ (p : Plan) (sys : System) (l : List ℕ) where
  -- "all fault bytes of the frame equal fill"
  unfoldable pub fault_bytes : List ℕ
  fault_bytes = replicate (faults_size (sizes_of p)) (fill_in l)

  unfoldable pub system_next : System
  system_next = system_after p sys (patterns_in l) (mask_in l) fault_bytes

  unfoldable pub plane_values : List ℕ
  plane_values = place_after p sys (patterns_in l) (mask_in l) fault_bytes (replicate p.actuators 0)

  unfoldable pub agreement : ℕ
  agreement = frame_agreement p sys (patterns_in l) (mask_in l) fault_bytes

  unfoldable pub working : ℕ
  working = how_many (is_working (period p) (mask_in l) sys.good) p.nodes

unfoldable pub single_after : Plan → Memory → List ℕ → Memory
single_after p single l = computed p (patterns_in l) single

-- "nodes whose memory then equals the single controller's"
unfoldable pub equal : Plan → System → Memory → ℕ
equal p sys single = how_many (λ i. same_memory p (memory_of sys i) single) p.nodes

-- "It prints per frame"
unfoldable pub frame_line : Plan → System → Memory → ℕ → List ℕ → List ℕ
frame_line p sys single frame l =
    row (printed_widths p.actuators)
    (frame ∷ working p sys l ∷ equal p (system_next p sys l) (single_after p single l) ∷ (plane_values p sys l ++ (agreement p sys l ∷ [])))

-- ---- a run, or what is left of one, whose first frame has the number `first` and finds this record and this single controller

module _ (p : Plan) (sys : System) (single : Memory) (first : ℕ) (run : List ℕ) where
  -- the numbers of line k, if it is of form and within the limits
  unfoldable pub read_line : ℕ → Option (List ℕ)
  read_line k = run_numbers p.nodes p.sensors (take (run_line_size p.sensors) (drop (k * run_line_size p.sensors) run))

  unfoldable pub read_numbers : ℕ → List ℕ
  read_numbers k = unwrap_or (read_line k) []

  -- record and single controller before frame k of these
  unfoldable pub system_at : ℕ → System
  system_at zero = sys
  system_at (suc k) = system_next p (system_at k) (read_numbers k)

  unfoldable pub single_at : ℕ → Memory
  single_at zero = single
  single_at (suc k) = single_after p (single_at k) (read_numbers k)

  unfoldable pub printed_at : ℕ → List ℕ
  printed_at k = frame_line p (system_at k) (single_at k) (first + k) (read_numbers k)

  -- the frames that are run: up to the first line that is refused
  unfoldable pub frames : ℕ
  frames = leading (λ k. is_some (read_line k)) (most_run_lines - first)

  unfoldable pub printed : List ℕ
  printed = joined printed_at frames

  -- whether a line is left, which then is refused
  unfoldable pub line_left : Bool
  line_left = ltb (frames * run_line_size p.sensors) (length run)

  unfoldable pub run_listing : List ℕ
  run_listing = printed ++ cond line_left (refusal_line (RunLine (first + frames + 1))) []

-- ---- the whole listing: "A refusal prints .. and ends the listing"; "an empty run under an accepted plan prints no line"

-- the lines of a text that is not refused, or the refusal's
unfoldable pub lines_or : Option Refusal → List ℕ → List ℕ
lines_or None lines = lines
lines_or (Some r) lines = refusal_line r

unfoldable pub listing : List ℕ → List ℕ → List ℕ
listing plan run = lines_or (text_refusal plan) (run_listing (plan_of plan) (power_on (plan_of plan)) (powered_on (plan_of plan)) 0 run)
