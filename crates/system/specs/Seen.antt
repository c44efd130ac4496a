-- Request 2026-06 over lists of calls: what the plane remembers under demand 3's premise, and that it does not jump on a tie.
use Rattle.std.specs.Prelude.{◌≡◌, Bool, true, List, [], ◌∷◌, ℕ, ◌<◌, get_or}
use Rattle.answer.specs.Tests.{passed}
use Rattle.plan.specs.declared.Plan.{Plan}
use Rattle.plan.specs.Accepted.{accepted}
use Rattle.memory.specs.Node.{powered_on, setpoint}
use Rattle.ballot.specs.Plane.{none_more}
use Rattle.system.specs.declared.System.{System}
use Rattle.system.specs.System.{power_on}
use Rattle.system.specs.Frame.{handed_of, put_out}
use Rattle.system.specs.FrameCall.{frame_tests, frame_place}
use Rattle.system.specs.Demand.{Call, next, finally, single_finally, OnePlan, Premise}

-- ---- "Under demand 3's premise setpoints are those of the single controller as before": and so are the remembered values, after every list, the empty one too

abbrev pub Remembered : Type 0
Remembered =
    (p : Plan) → accepted p ≡ true → (cs : List Call) → OnePlan p cs → Premise p cs [] →
    (a : ℕ) → a < p.actuators → handed_of (finally (power_on p) cs) a ≡ setpoint p (single_finally (powered_on p) cs) a

-- ---- "A cylinder jumped between two values": for any record, any plans and any faults, it keeps its value while no other has more holders

-- whether a call on this record is not refused
abbrev pub runs : System → Call → Bool
runs sys c = passed (frame_tests c.plan sys c.sensors c.mask c.faults c.place)

-- in each frame of the list whose plan has actuator a, no value that a node puts out for it has more holders than r
unfoldable pub NeverMore : System → List Call → ℕ → ℕ → Type 0
NeverMore sys [] a r = Unit {0}
NeverMore sys (c ∷ cs) a r =
    (runs sys c ≡ true → a < c.plan.actuators → none_more (put_out c.plan sys c.sensors c.mask c.faults a) c.plan.nodes r ≡ true)
    × NeverMore (next sys c) cs a r

-- each frame of the list whose plan has actuator a writes v for it
unfoldable pub Writes : System → List Call → ℕ → ℕ → Type 0
Writes sys [] a v = Unit {0}
Writes sys (c ∷ cs) a v =
    (runs sys c ≡ true → a < c.plan.actuators → get_or (frame_place c.plan sys c.sensors c.mask c.faults c.place) a 0 ≡ v)
    × Writes (next sys c) cs a v

pub record Kept (sys : System) (cs : List Call) (a : ℕ) : Type 0 where
  pub written : Writes sys cs a (handed_of sys a)
  pub remembered : handed_of (finally sys cs) a ≡ handed_of sys a

abbrev pub NoJump : Type 0
NoJump = (sys : System) (cs : List Call) (a : ℕ) → NeverMore sys cs a (handed_of sys a) → Kept sys cs a
