-- Laws for the proof of the call: what is given, and what becomes of record and place, by the way it goes.
use Rattle.std.specs.Prelude.{Result, Ok, Err}
use mathlib.Core.Path.{◌≡◌, sym, subst, ◌∙◌}
use mathlib.Core.Bool.{true, false, ◌&&◌}
use mathlib.Core.List.{List}
use Prim.Native.Nat.{ℕ}
use native.Mathlib.Omega.{arith}
use lib.Dec.{eqb}
use lib.ListN.{length}
use borrow.Author.Tests.{eqb-true}
use Rattle.array.proofs.TestLaws.{and_left, and_right}
use Rattle.answer.specs.declared.Refusal.{Refusal}
use Rattle.answer.specs.declared.Refusal.TheVariants.{WrongLength, MaskOrCount}
use Rattle.answer.specs.Tests.{passed, refused, unless, given, if_passed}
use Rattle.plan.specs.declared.Plan.{Plan}
use Rattle.plan.specs.declared.Sizes.{Sizes}
use Rattle.plan.specs.Accepted.{accepted}
use Rattle.plan.specs.Sizes.{sizes_of}
use Rattle.plan_period.specs.Answers.{period_found}
use Rattle.plan_period.proofs.AnswerLaws.{call-refused, call-kept}
use Rattle.system.specs.Fault.{faults_size}
use Rattle.system.specs.declared.System.{System}
use Rattle.system.specs.Frame.{system_after, place_after, frame_agreement}
use Rattle.system.specs.FrameCall.{mask_ok, counts_ok, lengths_ok, frame_tests, frame_answer, frame_system, frame_place}
use Rattle.faults.specs.Code.{Parts}
use Rattle.faults.proofs.LayoutLaws.{parts_all}

-- ---- a frame

module _ (p : Plan) (sys : System) (sensors : List ℕ) (mask : ℕ) (faults place : List ℕ) where
  -- what is given, the record and the place are the call's
  abbrev pub Right : Result ℕ Refusal → System → List ℕ → Type 0
  Right o next now =
      (o ≡ frame_answer p sys sensors mask faults place) × (next ≡ frame_system p sys sensors mask faults place) × (now ≡ frame_place p sys sensors mask faults place)

  pub frame-plan : {r : Refusal} → period_found p ≡ Err r → {o : Result ℕ Refusal} → o ≡ Err r → Right o sys place
  unfolding frame_answer frame_system frame_place frame_tests
  frame-plan e h = (h ∙ sym (call-refused p e _ _), sym (call-kept p e _ _ sys), sym (call-kept p e _ _ place))

  module _ (a : accepted p ≡ true) where
    pub frame-mask : (mask_ok p mask && counts_ok p sys) ≡ false → Right (Err MaskOrCount) sys place
    unfolding frame_answer frame_system frame_place frame_tests given unless refused passed if_passed
    frame-mask m = (rw (a, m), rw (a, m), rw (a, m))

    module _ (m : (mask_ok p mask && counts_ok p sys) ≡ true) where
      pub frame-length : lengths_ok p (length sensors) (length faults) (length place) ≡ false → Right (Err WrongLength) sys place
      unfolding frame_answer frame_system frame_place frame_tests given unless refused passed if_passed
      frame-length l = (rw (a, m, l), rw (a, m, l), rw (a, m, l))

      pub frame-done :
          lengths_ok p (length sensors) (length faults) (length place) ≡ true →
          {agreed : ℕ} {next : System} {now : List ℕ} →
          (agreed ≡ frame_agreement p sys sensors mask faults) × (next ≡ system_after p sys sensors mask faults) × (now ≡ place_after p sys sensors mask faults place) →
          Right (Ok agreed) next now
      unfolding frame_answer frame_system frame_place frame_tests given unless refused passed if_passed
      frame-done l h = (rw (a, m, l, h.0), rw (a, m, l) h.1, rw (a, m, l) h.2)

-- ---- the fault bytes of the exact length have every part

pub parts-exact : (p : Plan) {s : Sizes} (mask len : ℕ) → s ≡ sizes_of p → len ≡ faults_size (sizes_of p) → Parts s mask len
parts-exact p mask len e l = subst (λ (z : Sizes). Parts z mask len) (sym e) (parts_all (sizes_of p) mask len (omega arith))

-- ---- the lengths that the test tells

pub lengths-told : (p : Plan) (sensors faults place : ℕ) → lengths_ok p sensors faults place ≡ true → (sensors ≡ p.sensors) × (faults ≡ faults_size (sizes_of p)) × (place ≡ p.actuators)
unfolding lengths_ok
lengths-told p sensors faults place h =
    let front : (eqb sensors p.sensors && eqb faults (faults_size (sizes_of p))) ≡ true = and_left (eqb sensors p.sensors && eqb faults (faults_size (sizes_of p))) (eqb place p.actuators) h in (
      eqb-true _ _ (and_left (eqb sensors p.sensors) (eqb faults (faults_size (sizes_of p))) front),
      eqb-true _ _ (and_right (eqb sensors p.sensors) (eqb faults (faults_size (sizes_of p))) front),
      eqb-true _ _ (and_right (eqb sensors p.sensors && eqb faults (faults_size (sizes_of p))) (eqb place p.actuators) h),
    )
