-- What the next line of a run gives, one law for each way out.
use Rattle.std.specs.Prelude.{Option, None, Some, Result, Ok, Err}
use Rattle.std.proofs.lemmas.Option.{same_Some}
use mathlib.Core.Path.{◌≡◌, refl, sym, ap, ◌∙◌}
use mathlib.Core.Bool.{Bool, true, false, cond, ◌&&◌, ◌||◌}
use mathlib.Core.List.{List, [], append-nil}
use Prim.Native.Nat.{ℕ, ◌+◌, ◌-◌, ◌≤◌, ◌<◌, min}
use native.Mathlib.Omega.{arith}
use lib.Dec.{eqb, leb}
use lib.ListN.{length, take, drop, take-append-drop, drop_of_length-le}
use lib.Seq.{length-take-le}
use borrow.Author.Tests.{eq-eqb, ne_eqb, le-leb, lt-leb}
use borrow.Rule.Slice.PartMut.{put_mid}
use Rattle.answer.specs.declared.Refusal.{Refusal}
use Rattle.answer.specs.declared.Refusal.TheVariants.{WrongLength, MaskOrCount, RunLine}
use Rattle.answer.specs.Tests.{passed, refused, unless, given, if_passed}
use Rattle.plan.specs.Known.{period}
use Rattle.plan.specs.Accepted.{accepted}
use Rattle.plan_period.specs.Answers.{period_found}
use Rattle.plan_period.proofs.AnswerLaws.{unaccepted, call-refused}
use Rattle.system.specs.FrameCall.{counts_ok}
use Rattle.run_line.specs.Line.{run_line_size, printed_size}
use Rattle.run_line.specs.Listing.{most_run_lines, is_some, line_numbers, system_next, single_after, frame_line}
use Rattle.run_line.proofs.WritingLaws.{frame-length}
use Rattle.lines.specs.declared.Run.{Run}
use Rattle.lines.specs.declared.step.Stepped.{Stepped}
use Rattle.lines.specs.Run.{run_after, next_numbers}
use Rattle.lines.specs.Code.{step_answer, step_place, taken_or, line_taken}
use Rattle.lines.proofs.StepLaws.{empty-of-length, nothing-numbers, taken_none, taken-some, line-in-time}
use Rattle.listing.specs.Answers.{line_test, next_tests, taken, run_taken, next_answer, next_run, place_taken, next_place}

-- ---- the next line

pub nothing-next : (r : Run) → next_numbers r [] ≡ None
unfolding next_numbers
nothing-next r = nothing-numbers r.plan r.frame

-- a line that is refused has no numbers
pub kept : (ended : Bool) (o : Option (List ℕ)) → cond ((ended || is_some o) && true) o None ≡ o
kept true None = refl
kept false None = refl
kept true (Some l) = refl
kept false (Some l) = refl

module _ (r : Run) (rest : List ℕ) (out : List ℕ) where
  abbrev Called : Result ℕ Refusal → Run → List ℕ → Type 0
  Called x left to = (x ≡ next_answer r rest (length out)) × (left ≡ next_run r rest (length out)) × (to ≡ next_place r rest out)

  -- a call that is refused, or finds nothing left
  still-is : {x : Result ℕ Refusal} → taken r rest (length out) ≡ None → given (next_tests r rest (length out)) 0 ≡ x → Called x r out
  unfolding next_answer next_run next_place run_taken place_taken
  still-is t e = rw t (sym e, refl, refl)

  pub next-plan : {q : Refusal} → period_found r.plan ≡ Err q → Called (Err q) r out
  unfolding taken next_tests passed if_passed
  next-plan e = still-is (rw (unaccepted r.plan e).0) (call-refused r.plan e _ 0)

  module _ (a : accepted r.plan ≡ true) where
    pub next-counts : counts_ok r.plan r.system ≡ false → Called (Err MaskOrCount) r out
    unfolding taken next_tests given unless refused passed if_passed
    next-counts b = still-is (rw (a, b)) (rw (a, b))

    module _ (b : counts_ok r.plan r.system ≡ true) where
      pub next-room : length out < printed_size r.plan.actuators → Called (Err WrongLength) r out
      unfolding taken next_tests given unless refused passed if_passed
      next-room l =
          let c : leb (printed_size r.plan.actuators) (length out) ≡ false = lt-leb (printed_size r.plan.actuators) (length out) l in
          still-is (rw (a, b, c)) (rw (a, b, c))

      module _ (l : printed_size r.plan.actuators ≤ length out) where
        c : leb (printed_size r.plan.actuators) (length out) ≡ true
        c = le-leb (printed_size r.plan.actuators) (length out) l

        pub next-ended : length rest ≡ 0 → Called (Ok 0) r out
        unfolding taken next_tests given unless refused passed if_passed line_test
        next-ended e =
            let n : rest ≡ [] = empty-of-length rest e in
            still-is (rw (a, b, c) (kept (eqb (length rest) 0) (next_numbers r rest) ∙ ap (next_numbers r) n ∙ nothing-next r)) (rw (a, b, c, eq-eqb (length rest) 0 e))

        -- a line that is refused or run, its place lent
        pub next-taken :
            {x : Result ℕ Refusal} {left : Run} {to : List ℕ} {m : ℕ} →
            m ≡ printed_size r.plan.actuators →
            (length rest ≡ 0 → ⊥) →
            x ≡ line_taken r rest →
            left ≡ run_taken r (next_numbers r rest) →
            to ≡ place_taken r (next_numbers r rest) (take (m - 0) out) →
            Called x left (put_mid 0 (m - 0) out to)
        unfolding line_taken taken_or next_answer next_run next_place taken next_tests line_test given unless refused passed if_passed run_taken place_taken
        next-taken {x} {left} {to} {m} v e f h g = go (next_numbers r rest) refl
          where
            n : m - 0 ≡ printed_size r.plan.actuators
            n = omega (arith, v)

            ne : eqb (length rest) 0 ≡ false
            ne = ne_eqb (length rest) 0 e

            go : (o : Option (List ℕ)) → next_numbers r rest ≡ o → Called x left (put_mid 0 (m - 0) out to)
            go None q =
                let u : to ≡ take (printed_size r.plan.actuators) out = g ∙ rw (q, n) in
                (f ∙ rw (a, b, c, q, ne), h ∙ rw (a, b, c, q, ne), rw (a, b, c, q, ne, n, u) (take-append-drop (printed_size r.plan.actuators) out))
            go (Some k) q =
                let line : List ℕ = frame_line r.plan r.system r.single r.frame k in
                let d : drop (printed_size r.plan.actuators) (take (printed_size r.plan.actuators) out) ≡ [] =
                drop_of_length-le (take (printed_size r.plan.actuators) out) {i = printed_size r.plan.actuators} (omega (arith, length-take-le (printed_size r.plan.actuators) out l)) in
                let u : to ≡ line = g ∙ rw (q, n, d) (append-nil line) in
                (f ∙ rw (a, b, c, q, ne), h ∙ rw (a, b, c, q, ne), rw (a, b, c, q, ne, n, u))

-- ---- the line of a state that is not refused

module _ (r : Run) (rest out line b : List ℕ) (s : Option Stepped) (size : length out ≡ printed_size r.plan.actuators) (q : line ≡ take (run_line_size r.plan.sensors) rest) (e : s ≡ step_answer r.plan r.system r.single (line_numbers r.plan r.frame line)) (g : b ≡ step_place r.plan r.system r.single r.frame (line_numbers r.plan r.frame line) out) where
  numbers-are : line_numbers r.plan r.frame line ≡ next_numbers r rest
  unfolding next_numbers
  numbers-are = ap (line_numbers r.plan r.frame) q

  pub line_refused :
      {x : Refusal} →
      s ≡ None →
      x ≡ RunLine (min r.frame most_run_lines + 1) →
      (Err x ≡ line_taken r rest) × (r ≡ run_taken r (next_numbers r rest)) × (b ≡ place_taken r (next_numbers r rest) out)
  unfolding line_taken taken_or run_taken place_taken step_place
  line_refused t h =
      let o : line_numbers r.plan r.frame line ≡ None = taken_none r.plan r.system r.single s (line_numbers r.plan r.frame line) e t in
      rw (← numbers-are, o) (ap Err h, refl, g ∙ rw o)

  pub line-in-range : {after : Stepped} → s ≡ Some after → r.frame < most_run_lines
  line-in-range t =
      let k = taken-some r.plan r.system r.single s (line_numbers r.plan r.frame line) e t in
      line-in-time r.plan r.frame line k.0 k.1

  done-with :
      (n : ℕ) (l : List ℕ) {after : Stepped} →
      s ≡ Some after →
      line_numbers r.plan r.frame line ≡ Some l →
      n ≡ period r.plan →
      (Ok (length b) ≡ line_taken r rest) × (record { plan = r.plan; period = n; system = after.system; single = after.single; frame = r.frame + 1 } ≡ run_taken r (next_numbers r rest)) × (b ≡ place_taken r (next_numbers r rest) out)
  unfolding line_taken taken_or run_taken place_taken step_place step_answer run_after
  done-with n l {after} t o h =
      let a = same_Some after (record { system = system_next r.plan r.system l; single = single_after r.plan r.single l }) (sym t ∙ e ∙ rw o) in
      let u : b ≡ frame_line r.plan r.system r.single r.frame l = g ∙ rw o in
      let m : length b ≡ printed_size r.plan.actuators = ap length u ∙ frame-length r.plan r.system r.single r.frame l in
      let d : drop (printed_size r.plan.actuators) out ≡ [] = drop_of_length-le out {i = printed_size r.plan.actuators} (omega arith) in
      rw (← numbers-are, o) (
        ap Ok m,
        (λ i. record { plan = r.plan; period = h i; system = (a i).system; single = (a i).single; frame = r.frame + 1 }),
        u ∙ rw d (sym (append-nil (frame_line r.plan r.system r.single r.frame l))),
      )

  pub line-done :
      (n : ℕ) {after : Stepped} →
      s ≡ Some after →
      n ≡ period r.plan →
      (Ok (length b) ≡ line_taken r rest) × (record { plan = r.plan; period = n; system = after.system; single = after.single; frame = r.frame + 1 } ≡ run_taken r (next_numbers r rest)) × (b ≡ place_taken r (next_numbers r rest) out)
  line-done n t h =
      let k = taken-some r.plan r.system r.single s (line_numbers r.plan r.frame line) e t in done-with n k.0 t k.1 h
