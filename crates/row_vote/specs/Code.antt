-- The code's own: the vote of all nodes on rows, by what each hears. No definition of document 01 cites these.
use Rattle.std.specs.Prelude.{Bool, false, cond, ◌&&◌, List, ℕ, zero, suc, ltb, get_or, Option, unwrap_or}
use Rattle.array.specs.Index.{fill, lesser, least}
use Rattle.array.specs.Bit.{bit}
use Rattle.plan.specs.declared.Sizes.{Sizes}
use Rattle.plan.specs.Tables.{vote_place}
use Rattle.ballot.specs.Majority.{majority, agreement, or_own}
use Rattle.memory.specs.declared.Memory.{Memory}
use Rattle.rows.specs.Code.{word_place}
use Rattle.row_word.specs.Code.{is_good, heard_word}
use Rattle.row_counter.specs.Code.{frame_before, counter_after, counter_agreement}

-- ---- what is told

-- whether a cell is voted in a frame, by the table of votes
abbrev pub voted_at : List Bool → ℕ → ℕ → Bool
voted_at votes g c = get_or votes (vote_place g c) false

-- what node j sends of cell c, where it sends in frame `sent j`
abbrev pub sent_word : List Bool → (ℕ → ℕ) → List ℕ → ℕ → ℕ → ℕ
sent_word votes sent cells c j = cond (voted_at votes (sent j) c) (get_or cells (word_place (suc j) c) 0) 0

-- ---- a row after the vote

-- a memory after a vote in which bin j says `counters j` of the counter and `words c j` of cell c
unfoldable pub voted_by : List Bool → Sizes → (ℕ → Option ℕ) → (ℕ → ℕ → Option ℕ) → Memory → Memory
voted_by votes s counters words m =
    record {
      counter = or_own s.frames m.counter (majority counters s.nodes);
      cells =
          fill
          (λ c. cond (voted_at votes (frame_before s.frames (or_own s.frames m.counter (majority counters s.nodes))) c)
          (unwrap_or (majority (words c) s.nodes) (get_or m.cells c 0))
          (get_or m.cells c 0))
          s.cells
          m.cells;
    }

-- whether node i, who votes in frame `frame i`, votes on cell c: bad nodes do not vote
abbrev pub takes : List Bool → ℕ → (ℕ → ℕ) → ℕ → ℕ → Bool
takes votes mask frame c i = is_good mask i && voted_at votes (frame i) c

module _ (votes : List Bool) (s : Sizes) (mask : ℕ) (faults : List ℕ) where
  -- node i's cell c where it votes on it
  unfoldable pub word_after : (ℕ → ℕ) → List ℕ → ℕ → ℕ → ℕ
  word_after sent cells c i =
      unwrap_or (majority (heard_word s mask faults (sent_word votes sent cells c) (suc c) i) s.nodes) (get_or cells (word_place (suc i) c) 0)

  -- and its agreement on it
  unfoldable pub word_agreement : (ℕ → ℕ) → List ℕ → ℕ → ℕ → ℕ
  word_agreement sent cells c i = agreement (heard_word s mask faults (sent_word votes sent cells c) (suc c) i) s.nodes

  -- row q after the vote, by the rows before it
  module _ (counters cells : List ℕ) where
    abbrev pub sent_frame : ℕ → ℕ
    sent_frame j = frame_before s.frames (get_or counters (suc j) 0)

    unfoldable pub voted_row : ℕ → Memory → Memory
    voted_row zero m = m
    voted_row (suc i) m =
        cond (bit mask i) m
        (voted_by votes s (heard_word s mask faults (λ j. get_or counters (suc j) 0) 0 i) (λ c. heard_word s mask faults (sent_word votes sent_frame cells c) (suc c) i) m)

    -- node i's agreement, by the rows before the vote
    unfoldable pub row_agreement : ℕ → ℕ
    row_agreement i =
        lesser (counter_agreement s mask faults counters i)
        (least (voted_at votes (frame_before s.frames (counter_after s mask faults counters i))) (λ c. word_agreement sent_frame cells c i) s.cells)

  -- what stands in row q at column d once the first k columns are voted
  module _ (sent frame : ℕ → ℕ) (cells : List ℕ) where
    unfoldable pub voted_word : ℕ → ℕ → ℕ → ℕ
    voted_word k zero d = get_or cells (word_place 0 d) 0
    voted_word k (suc i) d =
        cond (ltb d k && (ltb i s.nodes && takes votes mask frame d i)) (word_after sent cells d i) (get_or cells (word_place (suc i) d) 0)

    -- the least of `low` and of the agreements on the first k columns of the nodes that vote on them
    unfoldable pub columns_least : ℕ → ℕ → ℕ
    columns_least low zero = low
    columns_least low (suc k) = lesser (columns_least low k) (least (takes votes mask frame k) (word_agreement sent cells k) s.nodes)
