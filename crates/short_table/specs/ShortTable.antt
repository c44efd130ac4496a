-- Document 01, 'Short table, to be proved together': the thirteen rows, of the definitions that the contracts cite, and beside them two of request 2026-06. The
-- sentence at a row is the paper's.
use Rattle.std.specs.Prelude.{◌≡◌, Bool, true, false, List, [], ◌∷◌, ◌++◌, ℕ, ◌*◌, length, get_or, set, take, replicate, Some, Ok, IsErrAnd}
use Rattle.array.specs.Index.{joined}
use Rattle.answer.specs.Refusal.{number_of, line_of}
use Rattle.pattern.specs.Pattern.{value_of}
use Rattle.plan.specs.declared.Op.TheVariants.{Take, Sum, Limit}
use Rattle.plan.specs.declared.Plan.{Plan}
use Rattle.plan.specs.Limits.{most_frames, most_cells, most_tasks, most_actuators}
use Rattle.plan.specs.Known.{period}
use Rattle.plan.specs.Tables.{unused_task, vote_place}
use Rattle.plan_grammar.specs.Written.{written}
use Rattle.plan_text.specs.Answers.{read_answer}
use Rattle.task.specs.Task.{op_value}
use Rattle.ballot.specs.Plane.{plane}
use Rattle.memory.specs.declared.Memory.{Memory}
use Rattle.memory.specs.Size.{counter_size}
use Rattle.memory.specs.Node.{computed, message_of, bin_of, voted}

-- ---- the plans: the numbers of their lines, and the records that these mean

-- a line by its six numbers
abbrev pub line : ℕ → ℕ → ℕ → ℕ → ℕ → ℕ → List (List ℕ)
line a b c d e f = (a ∷ b ∷ c ∷ d ∷ e ∷ f ∷ []) ∷ []

-- "Plan K, as rows", with these lines of votes
unfoldable pub lines_k : List (List ℕ) → List (List ℕ)
lines_k votes =
    line 0 3 2 2 1 1
    ++ line 1 0 0 0 0 0
    ++ line 1 1 0 0 0 0
    ++ line 10 0 0 0 0 0
    ++ line 11 1 1 0 1 0
    ++ votes
    ++ line 30 0 1 0 0 0

-- "F = 1, one cell, Take", with these lines of votes
unfoldable pub lines_take : List (List ℕ) → List (List ℕ)
lines_take votes = line 0 3 1 1 1 1 ++ line 1 0 0 0 0 0 ++ line 10 0 0 0 0 0 ++ votes ++ line 30 0 0 0 0 0

-- the table of votes: none, or one of a cell in a frame
abbrev pub no_vote : List Bool
no_vote = replicate (most_frames * most_cells) false

abbrev pub vote_of : ℕ → ℕ → List Bool
vote_of frame cell = set no_vote (vote_place frame cell) true

-- plan K's record with this table of votes
unfoldable pub plan_k : List Bool → Plan
plan_k votes =
    record {
      nodes = 3;
      frames = 2;
      cells = 2;
      sensors = 1;
      actuators = 1;
      initial = replicate most_cells 0;
      task_count = 2;
      tasks =
          set (set (replicate most_tasks unused_task) 0 (record { frame = 0; target = 0; op = Take 0 }))
          1
          (record { frame = 1; target = 1; op = Sum 0 1 });
      voted = votes;
      actuator_cell = set (replicate most_actuators 0) 0 1;
    }

-- the record of "F = 1, one cell, Take" with this many nodes: its one task is a Take of zeros, as the unused ones are
unfoldable pub plan_take : ℕ → List Bool → Plan
plan_take nodes votes =
    record {
      nodes = nodes;
      frames = 1;
      cells = 1;
      sensors = 1;
      actuators = 1;
      initial = replicate most_cells 0;
      task_count = 1;
      tasks = replicate most_tasks unused_task;
      voted = votes;
      actuator_cell = replicate most_actuators 0;
    }

-- the text of these lines is not refused; plan p is read from it, whose recovery period is r
abbrev pub Recovers : List (List ℕ) → Plan → ℕ → Type 0
Recovers lines p r = (read_answer (written lines) ≡ Ok p) × (period p ≡ r)

-- the text of these lines is refused with number n and line l
abbrev pub Refused : List (List ℕ) → ℕ → ℕ → Type 0
Refused lines n l = IsErrAnd (read_answer (written lines)) (λ r. (number_of r ≡ n) × (line_of r ≡ l))

-- ---- the nodes

-- plan K: "F = 2"
abbrev pub K : Plan
K = plan_k (vote_of 1 1)

-- four nodes that vote their one cell in each frame: "n = 4"
abbrev pub four : Plan
four = plan_take 4 (vote_of 0 0)

-- a memory with this counter and these first cells, the others zero
abbrev pub memory : ℕ → ℕ → ℕ → Memory
memory counter first second = record { counter = counter; cells = set (set (replicate most_cells 0) 0 first) 1 second }

-- the messages of all nodes, in bins: "its mailbox is these bins one after another, node 0 first"
unfoldable pub mailbox : Plan → (ℕ → Memory) → List ℕ
mailbox p sender = joined (λ j. bin_of (message_of p (sender j))) p.nodes

-- a node of plan K after a vote on bins with these counters
unfoldable pub counters_voted : Memory → List ℕ → Memory
counters_voted own counters = voted K own (mailbox K (λ j. memory (get_or counters j 0) 0 0))

-- one of the four after a vote on bins with these cells
unfoldable pub cells_voted : Memory → List ℕ → Memory
cells_voted own cells = voted four own (mailbox four (λ j. memory 0 (get_or cells j 0) 0))

-- what the plane hands on of these values, one of each node, where r is remembered
unfoldable pub plane_of : List ℕ → ℕ → ℕ
plane_of values r = plane (λ i. Some (get_or values i 0)) (length values) r

-- the patterns of 1, 2, 3, NaN, +0 and −0
abbrev pub one : ℕ
one = 0x3FF0000000000000

abbrev pub two : ℕ
two = 0x4000000000000000

abbrev pub three : ℕ
three = 0x4008000000000000

abbrev pub nan : ℕ
nan = 0x7FF8000000000000

abbrev pub plus_zero : ℕ
plus_zero = 0

abbrev pub minus_zero : ℕ
minus_zero = 0x8000000000000000

-- a node of plan K after compute, from counter 65,535, sensor 3 and cells 1 and 2. Frame 0 is a Take into cell 0, frame 1 the Sum into cell 1
unfoldable pub late : Memory
late = computed K (three ∷ []) (memory 65535 one two)

-- ---- the table

pub record ShortTable : Type 0 where
  -- "K: R = 3."
  pub row-1 : Recovers (lines_k (line 20 1 1 0 0 0)) K 3
  -- "K without its vote: 6."
  pub row-2 : Refused (lines_k []) 6 0
  -- "K voting cell 1 in frame 0 instead: R = 3."
  pub row-3 : Recovers (lines_k (line 20 0 1 0 0 0)) (plan_k (vote_of 0 1)) 3
  -- "F = 1, one cell, Take, no vote: R = 2."
  pub row-4 : Recovers (lines_take []) (plan_take 3 no_vote) 2
  -- "The same, voted: R = 1."
  pub row-5 : Recovers (lines_take (line 20 0 0 0 0 0)) (plan_take 3 (vote_of 0 0)) 1
  -- "Counters 1, 1, 9 with F = 2: 1." Whatever the node's own memory is
  pub row-6 : (own : Memory) → (counters_voted own (1 ∷ 1 ∷ 9 ∷ [])).counter ≡ 1
  -- "Counters 1, 0, 9, own 0: 0."
  pub row-7 : (counters_voted (memory 0 0 0) (1 ∷ 0 ∷ 9 ∷ [])).counter ≡ 0
  -- "Counters 5, 5, 1, F = 2, own 1: 1."
  pub row-8 : (counters_voted (memory 1 0 0) (5 ∷ 5 ∷ 1 ∷ [])).counter ≡ 1
  -- "n = 4, cell bins +0, +0, −0, −0: own kept." Whatever it is
  pub row-9 : (own : ℕ) → cells_voted (memory 0 own 0) (plus_zero ∷ plus_zero ∷ minus_zero ∷ minus_zero ∷ []) ≡ memory 0 own 0
  -- "Plane 7, 8, 9: 7." Request 2026-06: rows 10 and 11 "now hold for a remembered 3"
  pub row-10 : plane_of (7 ∷ 8 ∷ 9 ∷ []) 3 ≡ 7
  -- "Plane 4, 5, 5, 4, 6: 4."
  pub row-11 : plane_of (4 ∷ 5 ∷ 5 ∷ 4 ∷ 6 ∷ []) 3 ≡ 4
  -- "Limit from 1 to 2 of NaN: 1."
  pub row-12 : op_value (Limit 0 (value_of one) (value_of two)) 0 [] (nan ∷ []) ≡ one
  -- "Counter 65,535, F = 2: frame 1 is run, 0 is sent." The Sum was run and the Take was not; the first two bytes of the message are the counter
  pub row-13 : (late ≡ memory 0 one three) × (take counter_size (message_of K late) ≡ 0 ∷ 0 ∷ [])
  -- Request 2026-06: "Of tied values the remembered one wins": row 11 with a remembered 5
  pub row-2026-06-remembered : plane_of (4 ∷ 5 ∷ 5 ∷ 4 ∷ 6 ∷ []) 5 ≡ 5
  -- "if it isn't among them, the old rule decides": a remembered 6, which one node puts out and so is not tied
  pub row-2026-06-old-rule : plane_of (4 ∷ 5 ∷ 5 ∷ 4 ∷ 6 ∷ []) 6 ≡ 4
