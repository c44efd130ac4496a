-- What start and a refusal's line give, one law for each way out.
use Rattle.std.specs.Prelude.{Option, None, Some, Ok, Err}
use mathlib.Core.Path.{◌≡◌, refl, sym, ap, ◌∙◌}
use mathlib.Core.Bool.{true}
use mathlib.Core.List.{List}
use Prim.Native.Nat.{ℕ, ◌≤◌, ◌<◌}
use native.Mathlib.Omega.{arith}
use lib.ListN.{length}
use borrow.Author.Tests.{le-leb, lt-leb}
use Rattle.array.specs.Code.{placed}
use Rattle.answer.specs.declared.Refusal.{Refusal}
use Rattle.answer.specs.declared.Refusal.TheVariants.{WrongLength}
use Rattle.answer.specs.Tests.{passed, refused, unless, given, if_passed}
use Rattle.plan.specs.Known.{period}
use Rattle.plan.specs.Accepted.{accepted}
use Rattle.plan_grammar.specs.Meant.{plan_of}
use Rattle.plan_grammar.specs.Refused.{text_refusal}
use Rattle.plan_text.specs.declared.PlanRead.{PlanRead}
use Rattle.plan_text.specs.Code.{plan_found}
use Rattle.plan_text.proofs.TextLaws.{read-plan}
use Rattle.plan_text.proofs.GivenLaws.{unless-ok, found-given, none-found}
use Rattle.memory.specs.declared.Memory.{Memory}
use Rattle.memory.specs.Node.{powered_on}
use Rattle.system.specs.declared.System.{System}
use Rattle.system.specs.System.{power_on}
use Rattle.run_line.specs.Line.{refusal_line, refusal_size}
use Rattle.run_line.specs.Listing.{most_run_lines}
use Rattle.lines.specs.declared.Run.{Run}
use Rattle.listing_start.specs.Answers.{start_of, start_answer, refusal_tests, refusal_written, refusal_place}

-- ---- the line of a refusal

module _ (out : List ℕ) where
  pub refusal-short : (o : Option Refusal) → length out < refusal_size → (Err WrongLength ≡ refusal_written o (length out)) × (out ≡ refusal_place o out)
  unfolding refusal_written refusal_place refusal_tests given unless refused passed if_passed
  refusal-short o l = rw (lt-leb refusal_size (length out) l) (refl, refl)

  module _ (l : refusal_size ≤ length out) where
    pub refusal-none : {o : Option Refusal} → o ≡ None → (Ok 0 ≡ refusal_written o (length out)) × (out ≡ refusal_place o out)
    unfolding refusal_written refusal_place refusal_tests given unless refused passed if_passed
    refusal-none e = rw (e, le-leb refusal_size (length out) l) (refl, refl)

    pub refusal-written :
        {o : Option Refusal} {r : Refusal} {to : List ℕ} →
        o ≡ Some r →
        length (refusal_line r) ≡ refusal_size →
        to ≡ placed out 0 (refusal_line r) →
        (Ok refusal_size ≡ refusal_written o (length out)) × (to ≡ refusal_place o out)
    unfolding refusal_written refusal_place refusal_tests given unless refused passed if_passed
    refusal-written e k f = rw (e, le-leb refusal_size (length out) l) (refl, f ∙ rw k)

-- ---- start

module _ (s : List ℕ) where
  pub start-refused : {q : Refusal} → plan_found s ≡ Err q → Err q ≡ start_answer s
  unfolding start_answer unless
  start-refused e = rw (none-found s e)

  module _ {x : PlanRead} (e : plan_found s ≡ Ok x) where
    plan-is : x.plan ≡ plan_of s
    plan-is = ap (λ (y : PlanRead). y.plan) (found-given s e).1

    pub found-accepted : accepted x.plan ≡ true
    found-accepted = ap accepted plan-is ∙ read-plan s (found-given s e).0

    pub found-period : x.period ≡ period x.plan
    found-period = ap (λ (y : PlanRead). y.period) (found-given s e).1 ∙ sym (ap period plan-is)

    pub start-done :
        {sys : System} {m : Memory} →
        sys ≡ power_on x.plan →
        m ≡ powered_on x.plan →
        Ok (record { plan = x.plan; period = x.period; system = sys; single = m; frame = 0 }) ≡ start_answer s
    unfolding start_answer unless start_of
    start-done f g = rw ((found-given s e).0, f, g, found-period, plan-is)

-- a run that is started has an accepted plan
pub start-accepted : (s : List ℕ) {r : Run} → start_answer s ≡ Ok r → (accepted r.plan ≡ true) × (r.period ≡ period r.plan) × (r.frame ≤ most_run_lines)
unfolding start_answer start_of
start-accepted s {r} e =
    let given = unless-ok (text_refusal s) (start_of (plan_of s)) e in
    rw given.1 (read-plan s given.0, refl, omega arith)
