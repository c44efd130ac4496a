-- The lines read so far, and what the reader answers.
use Rattle.std.specs.Prelude.{Option, None, Some, option_map, Result, Ok, Err}
use mathlib.Core.Path.{◌≡◌, refl, sym, ap, ◌∙◌}
use mathlib.Core.Bool.{Bool, true, false, not}
use mathlib.Core.List.{List}
use Prim.Native.Nat.{ℕ, ◌+◌, ◌-◌, ◌*◌, ◌≤◌, ◌<◌}
use native.Mathlib.Nat.{add-sub_cancel_left}
use native.Mathlib.Omega.{arith}
use lib.ListN.{length, take, drop}
use Rattle.array.proofs.TestLaws.{refused-test, passed-test}
use Rattle.answer.specs.declared.Refusal.{Refusal}
use Rattle.answer.specs.declared.Refusal.TheVariants.{TextLength, Malformed, Header, OutOfOrder, OutOfRange, Unrecoverable}
use Rattle.column.specs.Row.{numbers_shown}
use Rattle.answer.specs.Tests.{unless}
use Rattle.plan.specs.declared.Plan.{Plan}
use Rattle.plan.specs.Limits.{most_tasks}
use Rattle.plan.specs.Known.{period}
use Rattle.plan.specs.Accepted.{well_formed}
use Rattle.plan_text.specs.declared.PlanRead.{PlanRead}
use Rattle.plan_line.specs.declared.Line.{Line}
use Rattle.plan_grammar.specs.Line.{widths, line_size, most_text_lines, line_count, numbers_at, line_at}
use Rattle.plan_grammar.specs.Meant.{zero_plan, with_line, plan_to, plan_of}
use Rattle.plan_grammar.specs.Refused.{length_ok, is_header, in_order, in_range, line_refusal, first_refusal, is_last, lines_refusal, text_refusal}
use Rattle.plan_text.specs.Answers.{read_answer}
use Rattle.plan_text.specs.Code.{plan_found}
use Rattle.plan_line.specs.Code.{numbers_in}
use Rattle.plan_grammar.proofs.LineLaws.{slice-part, line_at-is, some-line, few-lines}
use Rattle.plan_grammar.proofs.MeantLaws.{plan_to-start, plan_to-more, plan_to-tasks, plan_to-count}
use Rattle.plan_grammar.proofs.RefusedLaws.{first-start, first_more, line-malformed, not-header, header-passes, refused-order, refused-range, not-refused, lines_none, lines-refused, lines-missing, text-wrong-length, text-refused, text-unrecoverable, text-none}
use Rattle.plan_grammar.proofs.AcceptedTextLaws.{text-well_formed}

-- ---- the numbers of line i, as the code takes them

numbers-taken :
    (s : List ℕ) (i : ℕ) → numbers_shown widths (take (line_size * i + line_size - line_size * i) (drop (line_size * i) s)) ≡ numbers_at s i
unfolding numbers_at
numbers-taken s i = rw (add-sub_cancel_left (line_size * i) line_size, slice-part (line_size * i) line_size s)

module _ (s : List ℕ) (i : ℕ) {x : Option Line} (e : option_map numbers_in x ≡ numbers_shown widths (take (line_size * i + line_size - line_size * i) (drop (line_size * i) s))) where
  pub whole-line : {l : Line} → x ≡ Some l → numbers_at s i ≡ Some (numbers_in l)
  whole-line t = sym (numbers-taken s i) ∙ sym e ∙ ap (option_map numbers_in) t

  pub no_line : x ≡ None → numbers_at s i ≡ None
  no_line t = sym (numbers-taken s i) ∙ sym e ∙ ap (option_map numbers_in) t

-- ---- what is found: a refusal, or the plan and its period

abbrev taken : Result PlanRead Refusal → Result Plan Refusal
taken (Ok x) = Ok x.plan
taken (Err r) = Err r

taken-unless : (o : Option Refusal) (p : Plan) (n : ℕ) → taken (unless o (record { plan = p; period = n })) ≡ unless o p
unfolding unless
taken-unless None p n = refl
taken-unless (Some r) p n = refl

module _ (s : List ℕ) where
  refused : {a : Refusal} → text_refusal s ≡ Some a → Err a ≡ plan_found s
  unfolding plan_found unless
  refused t = rw t

  done : {p : Plan} {n : ℕ} → text_refusal s ≡ None → p ≡ plan_of s → n ≡ period p → Ok (record { plan = p; period = n }) ≡ plan_found s
  unfolding plan_found unless
  done t e f = rw (t, f, e)

  -- what the call takes of it

  found-taken : taken (plan_found s) ≡ read_answer s
  unfolding plan_found read_answer
  found-taken = taken-unless (text_refusal s) (plan_of s) (period (plan_of s))

  pub read-of-found : {x : PlanRead} → plan_found s ≡ Ok x → Ok x.plan ≡ read_answer s
  read-of-found e = sym (ap taken e) ∙ found-taken

  pub refusal-of-found : {r : Refusal} → plan_found s ≡ Err r → Err r ≡ read_answer s
  refusal-of-found e = sym (ap taken e) ∙ found-taken

  -- ---- the header is read

  pub answer-length : length_ok (length s) ≡ false → Err TextLength ≡ plan_found s
  answer-length e = refused (text-wrong-length s e)

  module _ (ok : length_ok (length s) ≡ true) where
    first : (a : Refusal) → line_refusal s 0 ≡ Some a → text_refusal s ≡ Some a
    first a e = text-refused s a ok (lines-refused s 1 a (some-line (length s) ok) (first_more s 0 (Some a) (first-start s) e))

    pub answer-first : numbers_at s 0 ≡ None → Err (Malformed 1) ≡ plan_found s
    answer-first n = refused (first (Malformed 1) (line-malformed s 0 n))

    pub answer-header : {h : List ℕ} → numbers_at s 0 ≡ Some h → is_header h ≡ false → Err Header ≡ plan_found s
    answer-header {h} n e = refused (first Header (not-header s h n e))

-- ---- the lines read so far

-- the first i lines of s pass, from the header h to the line prev, and mean the record p
pub record ReadTo (s h : List ℕ) (p : Plan) (prev : List ℕ) (i : ℕ) : Type 0 where
  pub length-ok : length_ok (length s) ≡ true
  pub later : 0 < i
  pub in-text : i ≤ line_count s
  pub header : line_at s 0 ≡ h
  pub plan : p ≡ plan_to s i
  pub last : line_at s (i - 1) ≡ prev
  pub passed : first_refusal s i ≡ None

-- after the header
pub read-start :
    {s h : List ℕ} {q : Plan} → length_ok (length s) ≡ true → numbers_at s 0 ≡ Some h → is_header h ≡ true → q ≡ with_line h zero_plan → ReadTo s h q h 1
read-start {s} {h} {q} ok n e f =
    let first : line_at s 0 ≡ h = line_at-is s 0 h n in
    record {
      length-ok = ok;
      later = omega arith;
      in-text = some-line (length s) ok;
      header = first;
      plan = f ∙ rw (plan_to-more s 0, plan_to-start s, first);
      last = first;
      passed = first_more s 0 None (first-start s) (header-passes s h n e);
    }

module _ {s h : List ℕ} {p : Plan} {prev : List ℕ} {i : ℕ} (r : ReadTo s h p prev i) where
  pub read-tasks : length p.tasks ≡ most_tasks
  read-tasks = ap (λ (q : Plan). length q.tasks) r.plan ∙ plan_to-tasks s i

  pub read_count : p.task_count ≤ most_text_lines
  read_count =
      rw (ap (λ (q : Plan). q.task_count) r.plan) (omega (arith, plan_to-count s i, r.in-text, few-lines (length s) r.length-ok))

  -- the next line
  module _ (within : i < line_count s) where
    stops : {a : Refusal} → line_refusal s i ≡ Some a → Err a ≡ plan_found s
    stops {a} e =
        refused s (text-refused s a r.length-ok (lines-refused s (i + 1) a (omega arith) (first_more s i (Some a) r.passed e)))

    pub answer-malformed : numbers_at s i ≡ None → Err (Malformed (i + 1)) ≡ plan_found s
    answer-malformed n = stops (line-malformed s i n)

    module _ {l : List ℕ} (n : numbers_at s i ≡ Some l) where
      order : {b : Bool} → in_order h (i - 1) prev l ≡ b → in_order (line_at s 0) (i - 1) (line_at s (i - 1)) l ≡ b
      order o = rw (r.header, r.last) o

      range : {b : Bool} → in_range h l ≡ b → in_range (line_at s 0) l ≡ b
      range o = rw r.header o

      pub answer-order : {t : Bool} → t ≡ in_order h (i - 1) prev l → not t ≡ true → Err (OutOfOrder (i + 1)) ≡ plan_found s
      answer-order o t = stops (refused-order s i r.later l n (order (refused-test o t)))

      pub answer-range :
          {t : Bool} → in_order h (i - 1) prev l ≡ true → t ≡ in_range h l → not t ≡ true → Err (OutOfRange (i + 1)) ≡ plan_found s
      answer-range o g t = stops (refused-range s i r.later l n (order o) (range (refused-test g t)))

      pub read_more : {q : Plan} → in_order h (i - 1) prev l ≡ true → in_range h l ≡ true → q ≡ with_line l p → ReadTo s h q l (i + 1)
      read_more o g e =
          let back : i + 1 - 1 ≡ i = omega arith in
          record {
            length-ok = r.length-ok;
            later = omega arith;
            in-text = omega arith;
            header = r.header;
            plan = e ∙ rw (plan_to-more s i, line_at-is s i l n, r.plan);
            last = rw back (line_at-is s i l n);
            passed = first_more s i None r.passed (not-refused s i r.later l n (order o) (range g));
          }

  -- after all lines
  module _ (all : line_count s ≤ i) where
    at-end : i ≡ line_count s
    at-end = omega (arith, r.in-text)

    no-refusal : first_refusal s (line_count s) ≡ None
    no-refusal = rw (← at-end) r.passed

    last_line : {b : Bool} → is_last h prev ≡ b → is_last (line_at s 0) (line_at s (line_count s - 1)) ≡ b
    last_line e = rw (← at-end, r.header, r.last) e

    pub answer-missing : {t : Bool} → t ≡ is_last h prev → not t ≡ true → Err (OutOfOrder (line_count s + 1)) ≡ plan_found s
    answer-missing e t = refused s (text-refused s _ r.length-ok (lines-missing s no-refusal (last_line (refused-test e t))))

    module _ {t : Bool} (e : t ≡ is_last h prev) (u : not t ≡ false) where
      lines-pass : lines_refusal s ≡ None
      lines-pass = lines_none s no-refusal (last_line (passed-test e u))

      whole : p ≡ plan_of s
      unfolding plan_of
      whole = r.plan ∙ ap (plan_to s) at-end

      pub read-well_formed : well_formed p ≡ true
      read-well_formed = rw whole (text-well_formed s r.length-ok lines-pass)

      pub answer-unrecoverable : period p ≡ 0 → Err Unrecoverable ≡ plan_found s
      answer-unrecoverable z = refused s (text-unrecoverable s r.length-ok lines-pass (sym (ap period whole) ∙ z))

      pub answer-done : {n : ℕ} → n ≡ period p → (period p ≡ 0 → ⊥) → Ok (record { plan = p; period = n }) ≡ plan_found s
      answer-done m z = done s (text-none s r.length-ok lines-pass (λ k. z (ap period whole ∙ k))) whole m
