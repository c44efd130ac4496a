-- Request 2026-02 beside demand 3: in a frame of a list that meets its premise, each good node's vote agrees with at least as many as work, so with more than
-- half.
use Rattle.std.specs.Prelude.{◌≡◌, true, false, List, [], ◌∷◌, ◌++◌, ℕ, ◌*◌, ◌≤◌, ◌<◌, Result, Ok}
use Rattle.array.specs.Index.{how_many}
use Rattle.answer.specs.declared.Refusal.{Refusal}
use Rattle.plan.specs.declared.Plan.{Plan}
use Rattle.plan.specs.Known.{period}
use Rattle.plan.specs.Accepted.{accepted}
use Rattle.system.specs.declared.System.{System}
use Rattle.system.specs.System.{power_on}
use Rattle.system.specs.Fault.{bad}
use Rattle.system.specs.Counts.{is_working}
use Rattle.system.specs.Frame.{agreement_by}
use Rattle.system.specs.FrameCall.{frame_answer}
use Rattle.system.specs.Demand.{Call, is_frame, next, finally, Premise, OnePlan}

-- the agreement that each call of a list gives, or its refusal
unfoldable pub agreements : System → List Call → List (Result ℕ Refusal)
agreements sys [] = []
agreements sys (c ∷ cs) = frame_answer c.plan sys c.sensors c.mask c.faults c.place ∷ agreements (next sys c) cs

-- a frame c after the calls cs
module _ (p : Plan) (cs : List Call) (c : Call) where
  abbrev pub record_before : System
  record_before = finally (power_on p) cs

  -- the nodes that work in it
  abbrev pub working_in : ℕ
  working_in = how_many (is_working (period p) c.mask record_before.good) p.nodes

  pub record Agreed : Type 0 where
    pub half : p.nodes < 2 * working_in
    pub nodes :
        (i : ℕ) → i < p.nodes → bad c.mask i ≡ false → working_in ≤ agreement_by p record_before c.sensors c.mask c.faults i
    -- what the call gives
    pub agreed : ℕ
    pub gives : frame_answer c.plan record_before c.sensors c.mask c.faults c.place ≡ Ok agreed
    pub least : working_in ≤ agreed

abbrev pub Agreement : Type 0
Agreement =
    (p : Plan) → accepted p ≡ true → (cs : List Call) (c : Call) → is_frame c ≡ true →
    OnePlan p (cs ++ (c ∷ [])) → Premise p (cs ++ (c ∷ [])) [] → Agreed p cs c
