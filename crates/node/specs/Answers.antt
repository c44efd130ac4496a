-- What the calls on one node give, refused or not: 7 before 8; a memory and a place that are lent stay as they were beside a refusal.
use Rattle.std.specs.Prelude.{List, [], ◌∷◌, ℕ, eqb, length, Result}
use Rattle.array.specs.Index.{fill}
use Rattle.answer.specs.declared.Refusal.{Refusal}
use Rattle.answer.specs.Tests.{Test, test, given, if_passed}
use Rattle.plan.specs.declared.Plan.{Plan}
use Rattle.plan.specs.Accepted.{accepted}
use Rattle.plan_period.specs.Answers.{plan_tests}
use Rattle.memory.specs.declared.Memory.{Memory}
use Rattle.memory.specs.Size.{message_size, mailbox_size}
use Rattle.memory.specs.Node.{powered_on, computed, message_of, voted, vote_agreement, setpoint}

-- 7, then 8 for a length that is not the wanted one
unfoldable pub length_tests : Plan → ℕ → ℕ → List Test
length_tests p has wanted = test 7 (accepted p) ∷ test 8 (eqb has wanted) ∷ []

unfoldable pub length_checked : Plan → ℕ → ℕ → Result (Unit {0}) Refusal
length_checked p has wanted = given (length_tests p has wanted) tt

unfoldable pub power_on_answer : Plan → Result Memory Refusal
power_on_answer p = given (plan_tests p) (powered_on p)

unfoldable pub vote_answer : Plan → Memory → List ℕ → Result ℕ Refusal
vote_answer p m box = given (length_tests p (length box) (mailbox_size p)) (vote_agreement p m box)

-- the memory after the call
unfoldable pub compute_memory : Plan → Memory → List ℕ → Memory
compute_memory p m sensors = if_passed (length_tests p (length sensors) p.sensors) (computed p sensors m) m

unfoldable pub vote_memory : Plan → Memory → List ℕ → Memory
vote_memory p m box = if_passed (length_tests p (length box) (mailbox_size p)) (voted p m box) m

-- the place for a message, and the place for setpoints, after the call
unfoldable pub message_place : Plan → Memory → List ℕ → List ℕ
message_place p m out = if_passed (length_tests p (length out) (message_size p)) (message_of p m) out

unfoldable pub setpoint_place : Plan → Memory → List ℕ → List ℕ
setpoint_place p m out = if_passed (length_tests p (length out) p.actuators) (fill (setpoint p m) p.actuators out) out
