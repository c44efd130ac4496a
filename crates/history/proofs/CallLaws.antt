-- What the call gives: refused by 7, 11 or 8, or the histories.
use Rattle.std.specs.Prelude.{Ok, Err}
use mathlib.Core.Path.{◌≡◌, sym, ap, ◌∙◌}
use mathlib.Core.Bool.{true, false}
use mathlib.Core.List.{List, ◌++◌, flatten}
use Prim.Native.Nat.{ℕ, ◌+◌, ◌*◌, ◌≤◌, ◌<◌}
use native.Mathlib.Omega.{arith}
use native.Mathlib.Nat.{mul-le-mul_right}
use lib.ListN.{length, drop}
use borrow.Author.Tests.{le-leb, lt-leb}
use Rattle.answer.specs.declared.Refusal.{Refusal}
use Rattle.answer.specs.declared.Refusal.TheVariants.{NodesOrLength, WrongLength}
use Rattle.answer.specs.Tests.{passed, refused, unless, given, if_passed}
use Rattle.array.specs.Code.{placed}
use Rattle.plan.specs.declared.Plan.{Plan}
use Rattle.plan.specs.Known.{period}
use Rattle.plan.specs.Accepted.{accepted}
use Rattle.plan_period.specs.Answers.{period_found}
use Rattle.plan_period.proofs.AnswerLaws.{call-refused, call-kept}
use Rattle.history_masks.specs.Histories.{histories}
use Rattle.history_masks.specs.Limits.{limits_ok}
use Rattle.history.specs.Answers.{plan_histories, histories_tests, histories_answer, histories_place}
use Rattle.history_masks.specs.Code.{past_of}
use Rattle.history.proofs.ListedLaws.{histories-length}
use Rattle.history_masks.proofs.CodeLaws.{histories-fit, histories-begin}
use Rattle.history_masks.proofs.LimitsLaws.{few-nodes, few-frames}

module _ (p : Plan) (k : ℕ) where
  module _ {r : ℕ} (e : r ≡ period p) where
    -- as the steps have them
    histories-are : histories p.nodes r k ≡ plan_histories p k
    unfolding plan_histories
    histories-are = rw e

    pub front-placed : (s : List ℕ) → placed s 0 (flatten (histories p.nodes r k)) ≡ flatten (plan_histories p k) ++ drop (length (plan_histories p k) * k) s
    front-placed s =
        let n : 0 + length (flatten (histories p.nodes r k)) ≡ length (plan_histories p k) * k =
        omega (arith, histories-length p.nodes r k ∙ ap (λ (hs : List (List ℕ)). length hs * k) histories-are) in
        rw (n, histories-are)

    pub count-is : {count : ℕ} → count ≡ length (histories p.nodes r k) → count ≡ length (plan_histories p k)
    count-is c = c ∙ ap length histories-are

  -- their bytes, and that these can be counted
  module _ (r : ℕ) {count : ℕ} (c : count ≡ length (histories p.nodes r k)) where
    pub size_is : length (flatten (histories p.nodes r k)) ≡ count * k
    size_is = histories-length p.nodes r k ∙ sym (ap (λ (n : ℕ). n * k) c)

    pub size_fits : limits_ok p.nodes k ≡ true → count * k < 16777216
    size_fits l =
        let few : count ≤ 1048576 = omega (arith, c, ap length (histories-begin p.nodes r k), histories-fit p.nodes r (past_of 0 0) k (few-nodes p.nodes k l) (few-frames p.nodes k l)) in
        omega (arith, mul-le-mul_right k few, few-frames p.nodes k l)

  -- ---- the call

  module _ (out : List ℕ) where
    -- 7
    pub histories-refused : {r : Refusal} → period_found p ≡ Err r → (Err r ≡ histories_answer p k (length out)) × (out ≡ histories_place p k out)
    unfolding histories_answer histories_place histories_tests
    histories-refused e = (sym (call-refused p e _ _), sym (call-kept p e _ _ out))

    module _ (a : accepted p ≡ true) where
      -- 11
      pub histories-outside :
          limits_ok p.nodes k ≡ false →
          (Err NodesOrLength ≡ histories_answer p k (length out)) × (out ≡ histories_place p k out)
      unfolding histories_answer histories_place histories_tests given unless refused passed if_passed
      histories-outside e = (rw (a, e), rw (a, e))

      module _ (l : limits_ok p.nodes k ≡ true) {count : ℕ} (c : count ≡ length (plan_histories p k)) where
        -- 8
        pub histories-short :
            length out < count * k →
            (Err WrongLength ≡ histories_answer p k (length out)) × (out ≡ histories_place p k out)
        unfolding histories_answer histories_place histories_tests given unless refused passed if_passed
        histories-short s = let t = lt-leb (length (plan_histories p k) * k) (length out) (rw c at s) in (rw (a, l, t), rw (a, l, t))

        pub histories-done :
            {ys : List ℕ} →
            count * k ≤ length out →
            ys ≡ flatten (plan_histories p k) ++ drop (length (plan_histories p k) * k) out →
            (Ok count ≡ histories_answer p k (length out)) × (ys ≡ histories_place p k out)
        unfolding histories_answer histories_place histories_tests given unless refused passed if_passed
        histories-done s f = let t = le-leb (length (plan_histories p k) * k) (length out) (rw c at s) in (rw (a, l, t, c), rw (a, l, t) f)
