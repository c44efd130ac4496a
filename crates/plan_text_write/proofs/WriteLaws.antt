-- What the call that writes a text gives.
use Rattle.std.specs.Prelude.{Ok, Err}
use mathlib.Core.Path.{◌≡◌, sym}
use mathlib.Core.Bool.{true}
use mathlib.Core.List.{List, ◌++◌}
use Prim.Native.Nat.{ℕ, ◌≤◌, ◌<◌}
use lib.ListN.{length, drop}
use borrow.Author.Tests.{le-leb, lt-leb}
use Rattle.answer.specs.declared.Refusal.{Refusal}
use Rattle.answer.specs.declared.Refusal.TheVariants.{WrongLength}
use Rattle.answer.specs.Tests.{passed, refused, unless, given, if_passed}
use Rattle.plan.specs.declared.Plan.{Plan}
use Rattle.plan.specs.Accepted.{accepted}
use Rattle.plan_period.specs.Answers.{period_found}
use Rattle.plan_period.proofs.AnswerLaws.{call-refused, call-kept}
use Rattle.plan_grammar.specs.Written.{plan_text}
use Rattle.plan_text_write.specs.Answers.{write_tests, write_answer, write_place}

module _ (p : Plan) (out : List ℕ) where
  -- 7
  pub write-refused : {r : Refusal} → period_found p ≡ Err r → (Err r ≡ write_answer p (length out)) × (out ≡ write_place p out)
  unfolding write_answer write_place write_tests
  write-refused e = (sym (call-refused p e _ _), sym (call-kept p e _ _ out))

  -- 8
  pub write-short :
      accepted p ≡ true →
      length out < length (plan_text p) →
      (Err WrongLength ≡ write_answer p (length out)) × (out ≡ write_place p out)
  unfolding write_answer write_place write_tests given unless refused passed if_passed
  write-short e l = let t = lt-leb (length (plan_text p)) (length out) l in (rw (e, t), rw (e, t))

  pub write_done :
      (n : ℕ) (ys : List ℕ) →
      accepted p ≡ true →
      length (plan_text p) ≤ length out →
      n ≡ length (plan_text p) →
      ys ≡ plan_text p ++ drop (length (plan_text p)) out →
      (Ok n ≡ write_answer p (length out)) × (ys ≡ write_place p out)
  unfolding write_answer write_place write_tests given unless refused passed if_passed
  write_done n ys e l m f = let t = le-leb (length (plan_text p)) (length out) l in (rw (e, t, m), rw (e, t) f)
