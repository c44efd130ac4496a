-- Document 01, 'Memory and frame': one node's memory through power-on, compute, broadcast, vote and sync.
use Rattle.std.specs.Prelude.{cond, List, ◌++◌, ℕ, ◌+◌, ◌-◌, ◌%◌, get_or, replicate, Option, Some, unwrap_or}
use Rattle.array.specs.Index.{fill, joined, lesser, least}
use Rattle.array.specs.Word.{be, bytes}
use Rattle.plan.specs.declared.Plan.{Plan}
use Rattle.plan.specs.Limits.{most_cells}
use Rattle.plan.specs.Tables.{voted_in}
use Rattle.memory.specs.declared.Memory.{Memory}
use Rattle.memory.specs.Size.{counter_size, pattern_size, cell_at, bin_bytes, bin_at}
use Rattle.task.specs.Task.{run_tasks}
use Rattle.ballot.specs.Majority.{majority, agreement, or_own}

abbrev pub zero_memory : Memory
zero_memory = record { counter = 0; cells = replicate most_cells 0 }

-- "At power-on the counter is 0 and cells are initial, zero past C": an accepted record's initial patterns are zero past C
unfoldable pub powered_on : Plan → Memory
powered_on p = record { counter = 0; cells = p.initial }

-- "Compute: with g = counter mod F, run the tasks of frame g .. The counter becomes (g + 1) mod F."
unfoldable pub computed : Plan → List ℕ → Memory → Memory
computed p sensors m =
    record {
      counter = (m.counter % p.frames + 1) % p.frames;
      cells = run_tasks p (m.counter % p.frames) sensors p.task_count m.cells;
    }

-- "The frame before a counter c is (c + F − 1) mod F"
unfoldable pub before : Plan → ℕ → ℕ
before p c = (c + p.frames - 1) % p.frames

-- "a cell not voted in g is sent as zero; .. a message made of any memory sends its counter and takes the frame before it for g"
unfoldable pub sent_cell : Plan → Memory → ℕ → ℕ
sent_cell p m c = cond (voted_in p (before p m.counter) c) (get_or m.cells c 0) 0

-- "Broadcast: the message is .. the new counter, then the cells 0 to C−1, all big-endian"
unfoldable pub message_of : Plan → Memory → List ℕ
message_of p m = bytes counter_size m.counter ++ joined (λ c. bytes pattern_size (sent_cell p m c)) p.cells

-- what a message becomes in a bin
unfoldable pub bin_of : List ℕ → List ℕ
bin_of message = message

-- "A node that sends nothing counts as having sent zero bytes": what stands in a bin, of a plan with so many cells, that nothing was sent to
unfoldable pub not_sent : ℕ → List ℕ
not_sent cells = replicate (bin_bytes cells) 0

-- what the bin that starts at a place of some bytes says of the counter, and of cell c
unfoldable pub counter_from : List ℕ → ℕ → Option ℕ
counter_from s at = Some (be counter_size s at)

unfoldable pub cell_from : List ℕ → ℕ → ℕ → Option ℕ
cell_from s c at = Some (be pattern_size s (at + cell_at c))

-- what bin j of a mailbox says
unfoldable pub counter_in : Plan → List ℕ → ℕ → Option ℕ
counter_in p box j = counter_from box (bin_at p j)

unfoldable pub cell_in : Plan → List ℕ → ℕ → ℕ → Option ℕ
cell_in p box c j = cell_from box c (bin_at p j)

unfoldable pub voted_counter : Plan → Memory → List ℕ → ℕ
voted_counter p m box = or_own p.frames m.counter (majority (counter_in p box) p.nodes)

-- "Each cell voted in g' takes its voted value, or stays as it is if there is none."
unfoldable pub voted_cell : Plan → Memory → List ℕ → ℕ → ℕ → ℕ
voted_cell p m box g c =
    cond (voted_in p g c)
    (unwrap_or (majority (cell_in p box c) p.nodes) (get_or m.cells c 0))
    (get_or m.cells c 0)

-- "Let g' be the frame before the resulting counter."
unfoldable pub voted : Plan → Memory → List ℕ → Memory
voted p m box =
    record {
      counter = voted_counter p m box;
      cells = fill (voted_cell p m box (before p (voted_counter p m box))) p.cells m.cells;
    }

-- Request 2026-02: "A node's vote gives the least such count over its counter and voted cells": the cells voted in g'
unfoldable pub vote_agreement : Plan → Memory → List ℕ → ℕ
vote_agreement p m box =
    lesser (agreement (counter_in p box) p.nodes)
    (least (voted_in p (before p (voted_counter p m box))) (λ c. agreement (cell_in p box c) p.nodes) p.cells)

-- "Sync: setpoint i is the pattern of the cell of actuator i."
unfoldable pub setpoint : Plan → Memory → ℕ → ℕ
setpoint p m i = get_or m.cells (get_or p.actuator_cell i 0) 0
