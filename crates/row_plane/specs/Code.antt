-- The code's own: what is put out and handed on, by the rows. No definition of document 01 cites these.
use Rattle.std.specs.Prelude.{cond, List, ℕ, suc, get_or, Option, Some}
use Rattle.array.specs.Bit.{bit}
use Rattle.plan.specs.declared.Sizes.{Sizes}
use Rattle.system.specs.Fault.{fault_setpoint}
use Rattle.ballot.specs.Plane.{plane}
use Rattle.rows.specs.Code.{word_place}

-- what node j puts out for actuator a, whose cell is `cell`
abbrev pub put_from : Sizes → ℕ → List ℕ → List ℕ → ℕ → ℕ → ℕ → Option ℕ
put_from s mask faults cells cell a j = cond (bit mask j) (fault_setpoint s faults j a) (Some (get_or cells (word_place (suc j) cell) 0))

-- what the plane hands on for actuator a, whose cell the table tells
abbrev pub handed_from : List ℕ → Sizes → ℕ → List ℕ → List ℕ → List ℕ → ℕ → ℕ
handed_from table s mask faults cells handed a = plane (put_from s mask faults cells (get_or table a 0) a) s.nodes (get_or handed a 0)
