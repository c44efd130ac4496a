-- Laws for the proofs of the calls: what is given, by the way a call goes.
use Rattle.std.specs.Prelude.{Result, Ok, Err}
use mathlib.Core.Path.{◌≡◌, sym, ◌∙◌}
use mathlib.Core.Bool.{true, false, ◌&&◌}
use Prim.Native.Nat.{ℕ}
use Rattle.array.specs.Index.{how_many}
use Rattle.answer.specs.declared.Refusal.{Refusal}
use Rattle.answer.specs.declared.Refusal.TheVariants.{MaskOrCount}
use Rattle.answer.specs.Tests.{refused, unless, given}
use Rattle.plan.specs.declared.Plan.{Plan}
use Rattle.plan.specs.Accepted.{accepted}
use Rattle.plan.specs.Known.{period}
use Rattle.plan_period.specs.Answers.{period_found}
use Rattle.plan_period.proofs.AnswerLaws.{call-refused}
use Rattle.memory.specs.declared.Memory.{Memory}
use Rattle.system.specs.declared.System.{System}
use Rattle.system.specs.Counts.{is_working}
use Rattle.system.specs.Frame.{memory_of}
use Rattle.system.specs.FrameCall.{mask_ok, counts_ok}
use Rattle.system.specs.CountCalls.{working_tests, working_answer, same_memory, equal_tests, equal_answer}

module _ (p : Plan) (sys : System) (mask : ℕ) where
  pub working-plan : {r : Refusal} → period_found p ≡ Err r → {o : Result ℕ Refusal} → o ≡ Err r → o ≡ working_answer p sys mask
  unfolding working_answer working_tests
  working-plan e h = h ∙ sym (call-refused p e _ _)

  module _ (a : accepted p ≡ true) where
    pub working-mask : (mask_ok p mask && counts_ok p sys) ≡ false → Err MaskOrCount ≡ working_answer p sys mask
    unfolding working_answer working_tests given unless refused
    working-mask m = rw (a, m)

    pub working-done : (mask_ok p mask && counts_ok p sys) ≡ true → {n r : ℕ} → r ≡ period p → n ≡ how_many (is_working r mask sys.good) p.nodes → Ok n ≡ working_answer p sys mask
    unfolding working_answer working_tests given unless refused
    working-done m h e = rw (a, m, e, h)

module _ (p : Plan) (sys : System) (s : Memory) where
  pub equal-plan : {r : Refusal} → period_found p ≡ Err r → {o : Result ℕ Refusal} → o ≡ Err r → o ≡ equal_answer p sys s
  unfolding equal_answer equal_tests
  equal-plan e h = h ∙ sym (call-refused p e _ _)

  module _ (a : accepted p ≡ true) where
    pub equal-counts : counts_ok p sys ≡ false → Err MaskOrCount ≡ equal_answer p sys s
    unfolding equal_answer equal_tests given unless refused
    equal-counts m = rw (a, m)

    pub equal-done : counts_ok p sys ≡ true → {n : ℕ} → n ≡ how_many (λ i. same_memory p (memory_of sys i) s) p.nodes → Ok n ≡ equal_answer p sys s
    unfolding equal_answer equal_tests given unless refused
    equal-done m e = rw (a, m, e)
