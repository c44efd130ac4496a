-- The single controller: "it computes as above, and its setpoint i is then the pattern of the cell of actuator i .. It never votes."
use Rattle.std.specs.Prelude.{◌&&◌, List, [], ◌∷◌, ℕ, eqb, length, Result}
use Rattle.array.specs.Index.{fill}
use Rattle.answer.specs.declared.Refusal.{Refusal}
use Rattle.answer.specs.Tests.{Test, test, given, if_passed}
use Rattle.plan.specs.declared.Plan.{Plan}
use Rattle.plan.specs.Accepted.{accepted}
use Rattle.memory.specs.declared.Memory.{Memory}
use Rattle.memory.specs.Node.{computed, setpoint}

unfoldable pub single_place : Plan → Memory → List ℕ → List ℕ
single_place p m place = fill (setpoint p m) p.actuators place

-- its frame as a call of its own: 7, 8
unfoldable pub single_tests : Plan → ℕ → ℕ → List Test
single_tests p sensors place = test 7 (accepted p) ∷ test 8 (eqb sensors p.sensors && eqb place p.actuators) ∷ []

unfoldable pub single_answer : Plan → List ℕ → List ℕ → Result (Unit {0}) Refusal
single_answer p sensors place = given (single_tests p (length sensors) (length place)) tt

-- its memory after the call
unfoldable pub single_memory : Plan → Memory → List ℕ → List ℕ → Memory
single_memory p m sensors place = if_passed (single_tests p (length sensors) (length place)) (computed p sensors m) m

unfoldable pub single_place_after : Plan → Memory → List ℕ → List ℕ → List ℕ
single_place_after p m sensors place =
    if_passed (single_tests p (length sensors) (length place)) (single_place p (computed p sensors m) place) place
