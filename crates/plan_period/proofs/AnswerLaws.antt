-- What the test of a record tells the calls above.
use Rattle.std.specs.Prelude.{Option, None, Some, unwrap_or, Result, Ok, Err, is_ok}
use Rattle.std.specs.Result.{result_unwrap_or, result_err}
use mathlib.Core.Path.{◌≡◌, refl, sym, ap, ◌∙◌}
use mathlib.Core.Bool.{true, false}
use mathlib.Core.List.{List, [], ◌∷◌}
use mathlib.Core.Logic.{◌⊎◌, inl, inr, ⊎_elim}
use Prim.Native.Nat.{ℕ, zero, suc, ◌<◌}
use native.Mathlib.Omega.{arith}
use borrow.Author.Tests.{ne_eqb}
use Rattle.array.proofs.TestLaws.{split, clash}
use Rattle.answer.specs.declared.Refusal.{Refusal}
use Rattle.answer.specs.declared.Refusal.TheVariants.{InvalidPlan}
use Rattle.answer.specs.Tests.{Test, test, passed, given, if_passed}
use Rattle.answer.proofs.TestLaws.{first-passed, given-later, given-none, given-refused, given-alike, kept-refused}
use Rattle.plan.specs.declared.Plan.{Plan}
use Rattle.plan.specs.Known.{period}
use Rattle.plan.specs.Accepted.{well_formed, accepted}
use Rattle.plan_period.specs.Answers.{plan_tests, checked, period_found, accepted_period, if_any}
use Rattle.plan.proofs.AcceptedLaws.{shape-of-accepted, bound-small}
use Rattle.plan.proofs.PeriodLaws.{period-bound}

-- ---- a count that there may not be

some-same : {a b : ℕ} → Some a ≡ Some b → a ≡ b
some-same {a} e = ap (λ o. kept o) e
  where
    kept : Option ℕ → ℕ
    kept None = a
    kept (Some x) = x

none-some : {A : Type 0} {a : A} → None ≡ Some a → ⊥
none-some e = let z : ◌≡◌ {A = ℕ} 0 1 = ap which e in omega arith
  where
    which : {A : Type 0} → Option A → ℕ
    which None = 0
    which (Some x) = 1

-- one that there is
pub any-some : (n : ℕ) {r : ℕ} → Some r ≡ if_any n → (r ≡ n) × (0 < r)
any-some zero e = absurd (none-some (sym e))
any-some (suc k) e = let s = some-same e in (s, omega (arith, s))

pub some-any : (n r : ℕ) → r ≡ n → 0 < r → Some r ≡ if_any n
some-any zero r e l = absurd (omega (arith, e, l))
some-any (suc k) r e l = ap Some e

pub any-none : (n : ℕ) → None ≡ if_any n → n ≡ 0
any-none zero e = refl
any-none (suc k) e = absurd (none-some e)

pub none-any : (n : ℕ) → n ≡ 0 → None ≡ if_any n
none-any zero e = refl
none-any (suc k) e = absurd (omega (arith, e))

-- ---- what an accepted record gives, and every other

module _ (p : Plan) where
  pub period-accepted : accepted p ≡ true → period_found p ≡ Ok (period p)
  unfolding period_found plan_tests
  period-accepted e = given-later _ [] (period p) e ∙ given-none (period p)

  pub period-refused : accepted p ≡ false → period_found p ≡ Err InvalidPlan
  unfolding period_found plan_tests
  period-refused e = given-refused _ [] (period p) e

  -- a record whose period is found is accepted, and that is its period
  pub accepted-of-period : {r : ℕ} → period_found p ≡ Ok r → accepted p ≡ true
  unfolding period_found plan_tests
  accepted-of-period e = first-passed _ [] (period p) _ e

  period-outcome : (period_found p ≡ Ok (period p)) ⊎ ((accepted p ≡ false) × (period_found p ≡ Err InvalidPlan))
  period-outcome = split (accepted p) (λ e. inl (period-accepted e)) (λ e. inr (e, period-refused e))

  ok-err : {x : ℕ} {r : Refusal} → ◌≡◌ {A = Result ℕ Refusal} (Ok x) (Err r) → ⊥
  ok-err e = clash refl (ap is_ok e)

  ok-same : {x y : ℕ} → ◌≡◌ {A = Result ℕ Refusal} (Ok x) (Ok y) → x ≡ y
  ok-same {x} e = ap (λ o. result_unwrap_or o x) e

  err-same : {r t : Refusal} → ◌≡◌ {A = Result ℕ Refusal} (Err r) (Err t) → r ≡ t
  err-same {r} e = ap (λ o. unwrap_or (result_err o) r) e

  pub period-is : {r : ℕ} → period_found p ≡ Ok r → r ≡ period p
  period-is e = ok-same (sym e ∙ period-accepted (accepted-of-period e))

  -- it is 0 for all others
  pub accepted-period : result_unwrap_or (period_found p) 0 ≡ accepted_period p
  unfolding accepted_period plan_tests if_passed passed
  accepted-period =
      split (accepted p) (λ e. ap (λ o. result_unwrap_or o 0) (period-accepted e) ∙ rw e)
      (λ e. ap (λ o. result_unwrap_or o 0) (period-refused e) ∙ rw e)

  -- and every other record is refused, whatever a call tests after it

  pub unaccepted : {r : Refusal} → period_found p ≡ Err r → (accepted p ≡ false) × (r ≡ InvalidPlan)
  unaccepted e = ⊎_elim (λ q. absurd (ok-err (sym q ∙ e))) (λ q. (q.0, err-same (sym e ∙ q.1))) period-outcome

  pub call-refused : {A : Type 0} {r : Refusal} → period_found p ≡ Err r → (ts : List Test) (x : A) → given (test 7 (accepted p) ∷ ts) x ≡ Err r
  call-refused e ts x = given-refused _ ts x (unaccepted e).0 ∙ ap Err (sym (unaccepted e).1)

  pub call-kept : {A : Type 0} {r : Refusal} → period_found p ≡ Err r → (ts : List Test) (new old : A) → if_passed (test 7 (accepted p) ∷ ts) new old ≡ old
  call-kept e ts new old = kept-refused _ ts new old (unaccepted e).0

  -- what the calls give, by what is found

  pub well_formed-none : well_formed p ≡ false → accepted p ≡ false
  unfolding accepted
  well_formed-none w = rw w

  pub none-accepted : period p ≡ 0 → accepted p ≡ false
  unfolding accepted
  none-accepted z = split (well_formed p) (λ w. rw (w, z)) (λ w. rw w)

  pub some-accepted : well_formed p ≡ true → 0 < period p → accepted p ≡ true
  unfolding accepted
  some-accepted w l = rw (w, ne_eqb (period p) 0 (λ z. omega (arith, z, l)))

pub period-small : (p : Plan) → accepted p ≡ true → {r : ℕ} → r ≡ period p → r < 65536
period-small p a e = let s = shape-of-accepted p a in omega (arith, period-bound p, bound-small p s)

module _ (p : Plan) where
  pub checked-done : accepted p ≡ true → checked p ≡ Ok tt
  unfolding checked plan_tests
  checked-done e = given-later _ [] tt e ∙ given-none tt

  pub checked-refused : {r : Refusal} → period_found p ≡ Err r → checked p ≡ Err r
  unfolding checked period_found
  checked-refused e = given-alike (plan_tests p) (period p) tt e
