-- What request 2026-02 promises under demand 3's premise holds.
use mathlib.Core.Path.{◌≡◌, ap, ◌∙◌}
use mathlib.Core.Bool.{true, false, not}
use mathlib.Core.List.{List, [], ◌∷◌, ◌++◌}
use Prim.Native.Nat.{ℕ, ◌*◌, ◌≤◌, ◌<◌}
use native.Mathlib.Omega.{arith}
use borrow.Author.Tests.{not-true}
use Rattle.array.proofs.TestLaws.{and_left}
use Rattle.array.proofs.IndexLaws.{how_many-some}
use Rattle.array.proofs.LeastLaws.{lesser-first, least-of-taken, least-of-some}
use Rattle.answer.specs.Tests.{passed}
use Rattle.answer.proofs.TestLaws.{given-passed}
use Rattle.plan.specs.declared.Plan.{Plan}
use Rattle.plan.specs.Known.{period}
use Rattle.memory.specs.Node.{powered_on}
use Rattle.system.specs.declared.System.{System}
use Rattle.system.specs.Fault.{bad}
use Rattle.system.specs.Counts.{is_working}
use Rattle.system.specs.Frame.{agreement_by, frame_agreement}
use Rattle.system.specs.FrameCall.{frame_tests, frame_answer}
use Rattle.system.specs.Demand.{Call, single_finally, masks, MostGood, Premise, OnePlan}
use Rattle.system.specs.Agreement.{record_before, working_in, Agreement}
use Rattle.system.proofs.CountLaws.{counts-ok}
use Rattle.system.proofs.StateLaws.{State, most-work, agreement-working}
use Rattle.system.proofs.DemandLaws.{runs-frame, frame_is, one_left, one_right, state-finally}

premise-left : (p : Plan) (a b : List Call) (past : List ℕ) → Premise p (a ++ b) past → Premise p a past
unfolding Premise
premise-left p [] b past h = tt
premise-left p (c ∷ a) b past h = (h.0, premise-left p a b _ h.1)

premise-right : (p : Plan) (a b : List Call) (past : List ℕ) → Premise p (a ++ b) past → Premise p b (masks a past)
unfolding Premise masks
premise-right p [] b past h = h
premise-right p (c ∷ a) b past h = premise-right p a b _ h.1

module _ (p : Plan) (sys : System) (sensors : List ℕ) (mask : ℕ) (faults : List ℕ) where
  -- what no good node's agreement is below, where one is good
  frame-least :
      (n j : ℕ) → j < p.nodes → bad mask j ≡ false →
      ((i : ℕ) → i < p.nodes → bad mask i ≡ false → n ≤ agreement_by p sys sensors mask faults i) →
      n ≤ frame_agreement p sys sensors mask faults
  unfolding frame_agreement
  frame-least n j l g h = least-of-some _ _ (λ (k : ℕ). n ≤ k) p.nodes j l (ap not g) (λ i k t. h i k (not-true (bad mask i) t))

  -- and it is above no good node's, working or not
  pub frame-most : (i : ℕ) → i < p.nodes → bad mask i ≡ false → frame_agreement p sys sensors mask faults ≤ agreement_by p sys sensors mask faults i
  unfolding frame_agreement
  frame-most i l g =
      let own : ℕ = agreement_by p sys sensors mask faults i in
      rw (least-of-taken (λ k. not (bad mask k)) (agreement_by p sys sensors mask faults) p.nodes i own l (ap not g) (omega arith)) (lesser-first own _)

pub agreement-holds : Agreement
unfolding OnePlan Premise is_working frame_answer
agreement-holds p accept cs c frame one most =
    record {
      half = more;
      nodes = λ i l g. each i;
      agreed = frame_agreement c.plan sys c.sensors c.mask c.faults;
      gives = given-passed (frame_tests c.plan sys c.sensors c.mask c.faults c.place) (frame_agreement c.plan sys c.sensors c.mask c.faults) ran;
      least = rw is (frame-least p sys c.sensors c.mask c.faults (working_in p cs c) some.0 some.1 (good some.0 some.2) (λ i l g. each i));
    }
  where
    is : c.plan ≡ p
    is = frame_is c (one_right p cs (c ∷ []) one).0 frame

    sys : System
    sys = record_before p cs c

    past : List ℕ
    past = masks cs []

    state : State p sys (single_finally (powered_on p) cs) past
    state = state-finally p accept cs (one_left p cs (c ∷ []) one) (premise-left p cs (c ∷ []) [] most)

    most_good : MostGood p c.mask past
    most_good = (premise-right p cs (c ∷ []) [] most).0 frame

    more : p.nodes < 2 * working_in p cs c
    more = most-work p accept sys _ past state c.sensors c.mask c.faults c.patterns most_good

    each : (i : ℕ) → working_in p cs c ≤ agreement_by p sys c.sensors c.mask c.faults i
    each i = agreement-working p accept sys _ past state c.sensors c.mask c.faults c.patterns most_good i

    some : (j : ℕ) × (j < p.nodes) × (is_working (period p) c.mask sys.good j ≡ true)
    some = how_many-some (is_working (period p) c.mask sys.good) p.nodes (omega (arith, more))

    good : (j : ℕ) → is_working (period p) c.mask sys.good j ≡ true → bad c.mask j ≡ false
    good j w = not-true (bad c.mask j) (and_left _ _ w)

    ran : passed (frame_tests c.plan sys c.sensors c.mask c.faults c.place) ≡ true
    ran = runs-frame sys c (λ a. rw is (counts-ok p sys past state.counts)) ∙ frame
