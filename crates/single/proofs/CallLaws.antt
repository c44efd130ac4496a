-- Laws for the proof of the call: what is given, and what becomes of memory and place, by the way it goes.
use Rattle.std.specs.Prelude.{Result, Ok, Err}
use mathlib.Core.Path.{◌≡◌, sym, ◌∙◌}
use mathlib.Core.Bool.{true, false, ◌&&◌}
use mathlib.Core.List.{List}
use Prim.Native.Nat.{ℕ}
use lib.Dec.{eqb}
use lib.ListN.{length}
use Rattle.array.specs.Index.{fill}
use Rattle.answer.specs.declared.Refusal.{Refusal}
use Rattle.answer.specs.declared.Refusal.TheVariants.{WrongLength}
use Rattle.answer.specs.Tests.{passed, refused, unless, given, if_passed}
use Rattle.plan.specs.declared.Plan.{Plan}
use Rattle.plan.specs.Accepted.{accepted}
use Rattle.plan_period.specs.Answers.{period_found}
use Rattle.plan_period.proofs.AnswerLaws.{call-refused, call-kept}
use Rattle.memory.specs.declared.Memory.{Memory}
use Rattle.memory.specs.Node.{computed, setpoint}
use Rattle.system.specs.Single.{single_place, single_tests, single_answer, single_memory, single_place_after}

module _ (p : Plan) (m : Memory) (sensors place : List ℕ) where
  -- what is given, the memory and the place are the call's
  abbrev pub Right : Result (Unit {0}) Refusal → Memory → List ℕ → Type 0
  Right o next now =
      (o ≡ single_answer p sensors place) × (next ≡ single_memory p m sensors place) × (now ≡ single_place_after p m sensors place)

  pub single-plan : {r : Refusal} → period_found p ≡ Err r → {o : Result (Unit {0}) Refusal} → o ≡ Err r → Right o m place
  unfolding single_answer single_memory single_place_after single_tests
  single-plan e h = (h ∙ sym (call-refused p e _ tt), sym (call-kept p e _ _ m), sym (call-kept p e _ _ place))

  module _ (a : accepted p ≡ true) where
    pub single-length : (eqb (length sensors) p.sensors && eqb (length place) p.actuators) ≡ false → Right (Err WrongLength) m place
    unfolding single_answer single_memory single_place_after single_tests given unless refused passed if_passed
    single-length l = (rw (a, l), rw (a, l), rw (a, l))

    pub single-done :
        (eqb (length sensors) p.sensors && eqb (length place) p.actuators) ≡ true →
        {next : Memory} {now : List ℕ} →
        next ≡ computed p sensors m →
        now ≡ fill (setpoint p next) p.actuators place →
        Right (Ok tt) next now
    unfolding single_answer single_memory single_place_after single_tests single_place given unless refused passed if_passed
    single-done l e h = (rw (a, l), rw (a, l) e, rw (a, l, ← e) h)
