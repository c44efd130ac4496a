-- A frame that is not refused is of an accepted plan, which has few nodes.
use Rattle.std.specs.Prelude.{Ok}
use mathlib.Core.Path.{◌≡◌}
use mathlib.Core.List.{List}
use Prim.Native.Nat.{ℕ, ◌≤◌}
use Rattle.answer.proofs.TestLaws.{first-passed}
use Rattle.plan.specs.declared.Plan.{Plan}
use Rattle.plan.specs.Limits.{most_nodes}
use Rattle.plan.proofs.AcceptedLaws.{shape-of-accepted}
use Rattle.system.specs.declared.System.{System}
use Rattle.system.specs.FrameCall.{frame_answer, frame_tests}

pub nodes-few :
    (p : Plan) (sys : System) (sensors : List ℕ) (mask : ℕ) (faults place : List ℕ) {agreed : ℕ} →
    frame_answer p sys sensors mask faults place ≡ Ok agreed → p.nodes ≤ most_nodes
unfolding frame_answer frame_tests
nodes-few p sys sensors mask faults place e = (shape-of-accepted p (first-passed _ _ _ _ e)).nodes-high
