-- Laws of a run as words, and of what the calls on a run give.
use Rattle.std.specs.Prelude.{Result, Ok, Err}
use mathlib.Core.Path.{◌≡◌, refl, sym, ap, ◌∙◌}
use mathlib.Core.Bool.{true}
use mathlib.Core.List.{List}
use Prim.Native.Nat.{ℕ, ◌≤◌}
use lib.ListN.{get_or, set}
use Rattle.answer.specs.declared.Refusal.{Refusal}
use Rattle.answer.proofs.TestLaws.{first-passed}
use Rattle.plan.specs.declared.Plan.{Plan}
use Rattle.plan.specs.Limits.{most_nodes}
use Rattle.plan.specs.Accepted.{accepted}
use Rattle.plan.proofs.AcceptedLaws.{shape-of-accepted}
use Rattle.plan_grammar.specs.Meant.{plan_of}
use Rattle.plan_grammar.specs.Refused.{text_refusal}
use Rattle.plan_text.proofs.GivenLaws.{unless-ok}
use Rattle.plan_text.proofs.TextLaws.{read-plan}
use Rattle.memory.specs.declared.Memory.{Memory}
use Rattle.system.specs.declared.System.{System}
use Rattle.lines.specs.declared.Run.{Run}
use Rattle.listing_start.specs.Answers.{start_of, start_answer}
use Rattle.listing.specs.Answers.{next_tests, next_answer}
use Rattle.system_words.specs.Words.{memory_at, with_memory, system_of_words, with_system}
use Rattle.system_words.proofs.GivenLaws.{done-given, done-kept}
use Rattle.ragbasalt_listing.specs.Words.{single_at, period_at, frame_at, run_of, with_run, run_given}

pub run-made :
    (p : Plan) (ws : List ℕ) {period frame : ℕ} {system : System} {single : Memory} →
    period ≡ get_or ws period_at 0 → system ≡ system_of_words ws → single ≡ memory_at ws single_at → frame ≡ get_or ws frame_at 0 →
    ◌≡◌ {A = Run} (record { plan = p; period = period; system = system; single = single; frame = frame }) (run_of p ws)
unfolding run_of
run-made p ws a b c d = λ i. record { plan = p; period = a i; system = b i; single = c i; frame = d i }

pub run-put :
    (n : ℕ) (r : Run) (ws : List ℕ) {a b c d : List ℕ} →
    a ≡ with_system n r.system ws → b ≡ with_memory r.single single_at a → c ≡ set b period_at r.period → d ≡ set c frame_at r.frame → d ≡ with_run n r ws
unfolding with_run
run-put n r ws e f g h = h ∙ rw (g, f, e)

-- ---- a run's words after a call, by what it gives

module _ {A : Type 0} (given : Result A Refusal) where
  pub run-given : {x : A} → given ≡ Ok x → (n : ℕ) (r : Run) (ws : List ℕ) → with_run n r ws ≡ run_given given n r ws
  unfolding run_given
  run-given e n r ws = done-given given e (with_run n r ws) ws

  pub run-kept : {q : Refusal} → given ≡ Err q → (n : ℕ) (r : Run) (ws : List ℕ) → ws ≡ run_given given n r ws
  unfolding run_given
  run-kept e n r ws = done-kept given e (with_run n r ws) ws

-- ---- a run that is started

module _ (s : List ℕ) {r : Run} (e : start_answer s ≡ Ok r) where
  pub started-is : r ≡ start_of (plan_of s)
  unfolding start_answer
  started-is = (unless-ok (text_refusal s) (start_of (plan_of s)) e).1

  pub started-plan : r.plan ≡ plan_of s
  unfolding start_of
  started-plan = ap (λ (x : Run). x.plan) started-is

  pub started-accepted : accepted r.plan ≡ true
  unfolding start_answer
  started-accepted = ap accepted started-plan ∙ read-plan s (unless-ok (text_refusal s) (start_of (plan_of s)) e).0

-- ---- a line that is not refused is of an accepted plan, which has few nodes

pub nodes-few : (r : Run) (rest : List ℕ) (room : ℕ) {n : ℕ} → next_answer r rest room ≡ Ok n → r.plan.nodes ≤ most_nodes
unfolding next_answer next_tests
nodes-few r rest room {n} e = (shape-of-accepted r.plan (first-passed _ _ _ n e)).nodes-high
