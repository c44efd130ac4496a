-- The code's own: what the phases of a frame make of the rows. No definition of document 01 cites these.
use Rattle.std.specs.Prelude.{Bool, cond, List, ℕ, zero, suc, ltb}
use Rattle.array.specs.Bit.{bit}
use Rattle.plan.specs.declared.Sizes.{Sizes}
use Rattle.plan.specs.declared.Plan.{Plan}
use Rattle.memory.specs.declared.Memory.{Memory}
use Rattle.memory.specs.Node.{computed}
use Rattle.system.specs.Fault.{fault_memory}
use Rattle.row_vote.specs.Code.{voted_row}

-- row q after its tasks, where the rows from `first` on run theirs
unfoldable pub ran : Plan → List ℕ → ℕ → ℕ → Memory → Memory
ran p sensors first q m = cond (ltb q first) m (computed p sensors m)

-- row q with what its fault leaves of a bad node
unfoldable pub spoiled : Sizes → ℕ → List ℕ → ℕ → Memory → Memory
spoiled s mask faults zero m = m
spoiled s mask faults (suc j) m = cond (bit mask j) (fault_memory s faults j m) m

-- row q after vote and faults, by the rows before them
abbrev pub closed_row : List Bool → Sizes → ℕ → List ℕ → List ℕ → List ℕ → ℕ → Memory → Memory
closed_row votes s mask faults counters cells q m = spoiled s mask faults q (voted_row votes s mask faults counters cells q m)
