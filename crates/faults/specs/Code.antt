-- The code's own: which parts of the fault bytes a frame reads, and a buffer of parts that each hold one byte. No definition of document 01 cites these.
use Rattle.std.specs.Prelude.{◌≡◌, true, List, ℕ, ◌+◌, ◌<◌, ◌≤◌, get_or}
use Rattle.array.specs.Bit.{bit}
use Rattle.plan.specs.declared.Sizes.{Sizes}
use Rattle.plan.specs.Limits.{most_nodes, most_cells, most_actuators}
use Rattle.system.specs.Fault.{fault_size, fault_at}

-- the limits of the numbers that the layout goes by
pub record Small (s : Sizes) : Type 0 where
  pub nodes : s.nodes ≤ most_nodes
  pub cells : s.cells ≤ most_cells
  pub actuators : s.actuators ≤ most_actuators

-- the parts of the bad nodes lie in so many bytes
abbrev pub Parts : Sizes → ℕ → ℕ → Type 0
Parts s mask len = (j : ℕ) → j < s.nodes → bit mask j ≡ true → fault_at s j + fault_size s ≤ len

-- each byte of node j's part is x
abbrev pub PartHolds : Sizes → List ℕ → ℕ → ℕ → Type 0
PartHolds s faults j x = (k : ℕ) → k < fault_size s → get_or faults (fault_at s j + k) 0 ≡ x

-- each node's part holds what `held` says
abbrev pub Held : Sizes → List ℕ → List ℕ → Type 0
Held s held faults = (j : ℕ) → j < s.nodes → PartHolds s faults j (get_or held j 0)

-- the parts of the bad nodes hold x
abbrev pub BadHold : Sizes → ℕ → List ℕ → ℕ → Type 0
BadHold s mask faults x = (j : ℕ) → j < s.nodes → bit mask j ≡ true → PartHolds s faults j x
