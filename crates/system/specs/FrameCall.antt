-- A frame call, refused or not.
use Rattle.std.specs.Prelude.{Bool, ◌&&◌, List, [], ◌∷◌, ℕ, ◌^◌, eqb, leb, ltb, length, Result}
use Rattle.array.specs.Index.{all_below}
use Rattle.answer.specs.declared.Refusal.{Refusal}
use Rattle.answer.specs.Tests.{Test, test, given, if_passed}
use Rattle.plan.specs.declared.Plan.{Plan}
use Rattle.plan.specs.Known.{period}
use Rattle.plan.specs.Accepted.{accepted}
use Rattle.plan.specs.Sizes.{sizes_of}
use Rattle.system.specs.declared.System.{System}
use Rattle.system.specs.Fault.{faults_size}
use Rattle.system.specs.Frame.{good_of, system_after, place_after, frame_agreement}

-- ---- refusals of a frame call: 7, then 9, then 8

-- "9: mask ≥ 2^n, or a good count above R"
unfoldable pub mask_ok : Plan → ℕ → Bool
mask_ok p mask = ltb mask (2 ^ p.nodes)

unfoldable pub counts_ok : Plan → System → Bool
counts_ok p sys = all_below (λ i. leb (good_of sys i) (period p)) p.nodes

-- "8: sensors, setpoints, fault bytes .. not of exact length"
unfoldable pub lengths_ok : Plan → ℕ → ℕ → ℕ → Bool
lengths_ok p sensors faults place = eqb sensors p.sensors && eqb faults (faults_size (sizes_of p)) && eqb place p.actuators

-- ---- a frame call, refused or not: its agreement or its refusal, the record after it, and its place

module _ (p : Plan) (sys : System) (sensors : List ℕ) (mask : ℕ) (faults : List ℕ) (place : List ℕ) where
  unfoldable pub frame_tests : List Test
  frame_tests =
      test 7 (accepted p)
      ∷ test 9 (mask_ok p mask && counts_ok p sys)
      ∷ test 8 (lengths_ok p (length sensors) (length faults) (length place))
      ∷ []

  unfoldable pub frame_answer : Result ℕ Refusal
  frame_answer = given frame_tests (frame_agreement p sys sensors mask faults)

  unfoldable pub frame_system : System
  frame_system = if_passed frame_tests (system_after p sys sensors mask faults) sys

  unfoldable pub frame_place : List ℕ
  frame_place = if_passed frame_tests (place_after p sys sensors mask faults place) place
