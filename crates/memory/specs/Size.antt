-- Document 01, 'Memory and frame': "the message is 2 + 8C bytes: the new counter, then the cells 0 to C−1, all big-endian".
-- A mailbox is n bins one after another. These names are the only place that knows the sizes; the bins of a card have a mark more (card_bins/Bins).
use Rattle.std.specs.Prelude.{ℕ, ◌+◌, ◌*◌}
use Rattle.plan.specs.declared.Plan.{Plan}

abbrev pub counter_size : ℕ
counter_size = 2

abbrev pub pattern_size : ℕ
pattern_size = 8

-- where cell c stands in a message
abbrev pub cell_at : ℕ → ℕ
cell_at c = counter_size + pattern_size * c

abbrev pub message_size : Plan → ℕ
message_size p = cell_at p.cells

-- a bin, of a plan with so many cells
abbrev pub bin_bytes : ℕ → ℕ
bin_bytes cells = cell_at cells

abbrev pub bin_size : Plan → ℕ
bin_size p = bin_bytes p.cells

-- where bin j starts in a mailbox
abbrev pub bin_at : Plan → ℕ → ℕ
bin_at p j = j * bin_size p

abbrev pub mailbox_size : Plan → ℕ
mailbox_size p = p.nodes * bin_size p
