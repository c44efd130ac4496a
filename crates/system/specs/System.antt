-- Document 01, 'Faults': "The system record begins at power-on: n memories and n good counts, each R, with zeros past them." Request 2026-06: "the plane
-- remembers the value it last handed on for each actuator; at power-on that is the actuator's cell's initial pattern .. The memory belongs to the system record."
use Rattle.std.specs.Prelude.{ℕ, get_or, replicate, Result}
use Rattle.array.specs.Index.{fill}
use Rattle.answer.specs.declared.Refusal.{Refusal}
use Rattle.answer.specs.Tests.{given}
use Rattle.plan.specs.declared.Plan.{Plan}
use Rattle.plan.specs.Limits.{most_nodes, most_actuators}
use Rattle.plan.specs.Known.{period}
use Rattle.plan_period.specs.Answers.{plan_tests}
use Rattle.memory.specs.Node.{zero_memory, powered_on}
use Rattle.system.specs.declared.System.{System}

abbrev pub zero_system : System
zero_system = record { memories = replicate most_nodes zero_memory; good = replicate most_nodes 0; seen = record { handed = replicate most_actuators 0 } }

-- the initial pattern of the cell of actuator a
unfoldable pub first_handed : Plan → ℕ → ℕ
first_handed p a = get_or p.initial (get_or p.actuator_cell a 0) 0

-- of an accepted plan
unfoldable pub power_on : Plan → System
power_on p =
    record {
      memories = fill (λ i. powered_on p) p.nodes zero_system.memories;
      good = fill (λ i. period p) p.nodes zero_system.good;
      seen = record { handed = fill (first_handed p) p.actuators zero_system.seen.handed };
    }

unfoldable pub system_power_on_answer : Plan → Result System Refusal
system_power_on_answer p = given (plan_tests p) (power_on p)
