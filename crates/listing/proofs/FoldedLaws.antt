-- The listing is what the calls print, made one after another over the lines of the run.
use Rattle.std.specs.Prelude.{Option, None, Some, Ok, Err}
use mathlib.Core.Path.{◌≡◌, refl, sym, ap, ◌∙◌}
use mathlib.Core.Bool.{Bool, true, false, cond}
use mathlib.Core.List.{List, [], ◌∷◌, ◌++◌}
use Prim.Native.Nat.{ℕ, zero, suc, ◌+◌, ◌≤◌, ◌<◌, min}
use native.Mathlib.Omega.{arith}
use native.Mathlib.Nat.{zero-mul, min-eq_left, min-le_left}
use lib.Dec.{eqb, leb, ltb}
use lib.ListN.{length, get_or, take, drop, replicate, length-replicate}
use lib.Seq.{take_at}
use borrow.Author.Tests.{eq-eqb, ne_eqb, eqb-true, eqb-false, lt-ltb, le-ltb, ltb-true, ltb-false, le-leb}
use Rattle.array.specs.Index.{joined, fill}
use Rattle.array.proofs.TestLaws.{split}
use Rattle.array.proofs.IndexLaws.{all_below-all}
use Rattle.array.proofs.PlacesLaws.{fill-length, fill-in}
use Rattle.answer.specs.declared.Refusal.{Refusal}
use Rattle.answer.specs.declared.Refusal.TheVariants.{RunLine}
use Rattle.answer.specs.Tests.{passed, refused, unless, given, if_passed}
use Rattle.plan.specs.declared.Plan.{Plan}
use Rattle.plan.specs.Limits.{most_nodes}
use Rattle.plan.specs.Known.{period}
use Rattle.plan.specs.Accepted.{accepted}
use Rattle.plan.proofs.AcceptedLaws.{shape-of-accepted}
use Rattle.plan_grammar.specs.Meant.{plan_of}
use Rattle.plan_grammar.specs.Refused.{text_refusal}
use Rattle.plan_text.proofs.TextLaws.{read-plan}
use Rattle.memory.specs.declared.Memory.{Memory}
use Rattle.memory.specs.Node.{powered_on}
use Rattle.system.specs.declared.System.{System}
use Rattle.system.specs.System.{power_on}
use Rattle.system.specs.Fault.{bad}
use Rattle.system.specs.Counts.{count_after, good_after}
use Rattle.system.specs.Frame.{good_of, system_after}
use Rattle.system.specs.FrameCall.{counts_ok}
use Rattle.run_line.specs.Line.{mask_in, run_line_size, run_numbers, printed_size, refusal_line}
use Rattle.run_line.specs.Listing.{most_run_lines, is_some, system_next, single_after, frame_line, read_line, frames, printed, line_left, run_listing, lines_or, listing}
use Rattle.lines.specs.declared.Run.{Run}
use Rattle.lines.specs.Run.{run_after, next_numbers}
use Rattle.listing_start.specs.Answers.{start_of, start_answer}
use Rattle.listing.specs.Answers.{line_test, next_tests, taken, run_taken, next_answer, next_run, place_taken, next_place}
use Rattle.listing.specs.Folded.{blank, next_of, next_left, lines_after, printed_by, folded, by_blocks}
use Rattle.run_line.proofs.WritingLaws.{frame-length}
use Rattle.lines.proofs.StepLaws.{empty-of-length, line-early, line-in-time}
use Rattle.listing.proofs.CallLaws.{nothing-next, kept}
use Rattle.lines.proofs.RunLaws.{ran-none, ran-ended, frames-are}
use Rattle.lines.specs.Blocks.{joined_blocks, WholeBlocks}
use Rattle.lines.proofs.NextLaws.{run-next}
use Rattle.lines.proofs.BlockLaws.{blocks-listing}

-- ---- the counts are right at power-on, and after each frame

counts_start : (p : Plan) → accepted p ≡ true → counts_ok p (power_on p) ≡ true
unfolding counts_ok power_on
counts_start p a =
    let s = shape-of-accepted p a in
    all_below-all (λ i. leb (good_of (power_on p) i) (period p)) p.nodes
    (λ i l. le-leb (good_of (power_on p) i) (period p) (let e : good_of (power_on p) i ≡ period p = fill-in (λ k. period p) p.nodes (replicate most_nodes 0) i 0 l (omega (arith, s.nodes-high)) in omega (arith, e)))

good-bound : (period mask : ℕ) (good : List ℕ) (i : ℕ) → good_after period mask good i ≤ period
unfolding good_after count_after
good-bound period mask good i = go (bad mask i)
  where
    go : (t : Bool) → cond t 0 (min period (get_or good i 0 + 1)) ≤ period
    go true = omega arith
    go false = min-le_left period (get_or good i 0 + 1)

get_d_past : (l : List ℕ) (i : ℕ) → length l ≤ i → get_or l i 0 ≡ 0
get_d_past [] i m = refl
get_d_past (x ∷ l) zero m = absurd (omega arith)
get_d_past (x ∷ l) (suc i) m = get_d_past l i (omega arith)

counts-next : (p : Plan) (sys : System) (l : List ℕ) → accepted p ≡ true → counts_ok p (system_next p sys l) ≡ true
unfolding counts_ok system_next system_after
counts-next p sys l a =
    all_below-all (λ i. leb (good_of (system_next p sys l) i) (period p)) p.nodes
    (λ i m. le-leb (good_of (system_next p sys l) i) (period p) (small i m))
  where
    f : ℕ → ℕ
    f = good_after (period p) (mask_in l) sys.good

    small : (i : ℕ) → i < p.nodes → get_or (fill f p.nodes sys.good) i 0 ≤ period p
    small i m =
        split (ltb i (length sys.good))
        (λ t. rw (fill-in f p.nodes sys.good i 0 m (ltb-true i (length sys.good) t)) (good-bound (period p) (mask_in l) sys.good i))
        (λ t. rw (get_d_past (fill f p.nodes sys.good) i (omega (arith, fill-length f p.nodes sys.good, ltb-false i (length sys.good) t))) (omega arith))

-- ---- the calls, one after another

module _ (p : Plan) (sys : System) (single : Memory) (first : ℕ) (rest : List ℕ) (a : accepted p ≡ true) (c : counts_ok p sys ≡ true) where
  abbrev state : Run
  state = record { plan = p; period = period p; system = sys; single = single; frame = first }

  room : leb (printed_size p.actuators) (printed_size p.actuators) ≡ true
  room = le-leb (printed_size p.actuators) (printed_size p.actuators) (omega arith)

  next-taken : taken state rest (printed_size p.actuators) ≡ next_numbers state rest
  unfolding taken next_tests line_test passed if_passed
  next-taken = rw (a, c, room) (kept (eqb (length rest) 0) (next_numbers state rest))

  next-answer : next_of state rest ≡ given (line_test state rest ∷ []) (cond (is_some (next_numbers state rest)) (printed_size p.actuators) 0)
  unfolding next_answer next_tests given refused
  next-answer = rw (next-taken, a, c, room)

  next-early : (l : List ℕ) → next_numbers state rest ≡ Some l → first < most_run_lines
  unfolding next_numbers
  next-early l q = line-in-time p first (take (run_line_size p.sensors) rest) l q

  next-numbers : (l : List ℕ) → next_numbers state rest ≡ Some l → run_numbers p.nodes p.sensors (take (run_line_size p.sensors) rest) ≡ Some l
  unfolding next_numbers
  next-numbers l q = sym (line-early p first (take (run_line_size p.sensors) rest) (next-early l q)) ∙ q

  by-more :
      (n : ℕ) →
      printed_by (suc n) state rest
      ≡ lines_after (next_of state rest)
      (λ count.
      cond (eqb count 0) []
      (take count (next_place state rest (blank state)) ++ printed_by n (next_left state rest) (drop (run_line_size p.sensors) rest)))
  unfolding printed_by
  by-more n = refl

  -- no frame is run
  run_none : frames p sys single first rest ≡ 0 → run_listing p sys single first rest ≡ cond (ltb 0 (length rest)) (refusal_line (RunLine (first + 0 + 1))) []
  unfolding run_listing printed line_left joined
  run_none e = rw (e, zero-mul (run_line_size p.sensors))

  -- nothing is left
  fold-ended : (n : ℕ) → first ≤ most_run_lines → length rest ≡ 0 → run_listing p sys single first rest ≡ printed_by (suc n) state rest
  unfolding line_test given unless refused
  fold-ended n f e =
      let r : rest ≡ [] = empty-of-length rest e in
      let k : frames p sys single first rest ≡ 0 = ran-ended p sys single first rest (ran-none p sys single first rest [] f) (omega arith) in
      let t : next_numbers state rest ≡ None = ap (next_numbers state) r ∙ nothing-next state in
      let w : next_of state rest ≡ Ok 0 = next-answer ∙ rw (eq-eqb (length rest) 0 e, t) in
      run_none k ∙ rw (le-ltb 0 (length rest) (omega arith)) (sym (by-more n ∙ rw w))

  -- the line is refused
  fold-refused :
      (n : ℕ) → (length rest ≡ 0 → ⊥) → first ≤ most_run_lines → next_numbers state rest ≡ None → run_listing p sys single first rest ≡ printed_by (suc n) state rest
  unfolding line_test given unless refused read_line next_numbers
  fold-refused n e f q =
      let size : ℕ = run_line_size p.sensors in
      let k : frames p sys single first rest ≡ 0 =
      frames-are p sys single first rest (ran-none p sys single first rest [] f)
      (λ m. rw (zero-mul size) (sym (line-early p first (take size rest) (omega arith)) ∙ q)) in
      let z : first + 0 ≡ first = omega arith in
      let w : next_of state rest ≡ Err (RunLine (first + 1)) = next-answer ∙ rw (ne_eqb (length rest) 0 e, q, min-eq_left f) in
      run_none k ∙ rw (lt-ltb 0 (length rest) (omega arith), z) (sym (by-more n ∙ rw w))

  -- the line is run
  fold-run :
      (n : ℕ) (l : List ℕ) →
      (length rest ≡ 0 → ⊥) →
      next_numbers state rest ≡ Some l →
      printed_by (suc n) state rest ≡ frame_line p sys single first l ++ printed_by n (run_after state l) (drop (run_line_size p.sensors) rest)
  unfolding line_test given unless refused next_run next_place place_taken run_taken
  fold-run n l e q =
      let width : ℕ = printed_size p.actuators in
      let t : taken state rest width ≡ Some l = next-taken ∙ q in
      let w : next_of state rest ≡ Ok width = next-answer ∙ rw (ne_eqb (length rest) 0 e, q) in
      let y : next_left state rest ≡ run_after state l = rw t in
      let b : next_place state rest (blank state) ≡ frame_line p sys single first l ++ drop width (blank state) = rw (length-replicate {A = ℕ} width 0, t) in
      let u : take width (next_place state rest (blank state)) ≡ frame_line p sys single first l = ap (take width) b ∙ take_at (frame_line p sys single first l) (drop width (blank state)) width (frame-length p sys single first l) in
      by-more n ∙ rw (w, y, ne_eqb width 0 (λ i. omega arith), u)

  -- one call more, if what is left after its line is printed by the others
  fold_more :
      (n : ℕ) →
      first ≤ most_run_lines →
      ((l : List ℕ) → first < most_run_lines → run_listing p (system_next p sys l) (single_after p single l) (first + 1) (drop (run_line_size p.sensors) rest) ≡ printed_by n (run_after state l) (drop (run_line_size p.sensors) rest)) →
      run_listing p sys single first rest ≡ printed_by (suc n) state rest
  fold_more n f h =
      split (eqb (length rest) 0) (λ t. fold-ended n f (eqb-true (length rest) 0 t))
      (λ t. go (eqb-false (length rest) 0 t) (next_numbers state rest) refl)
    where
      go : (length rest ≡ 0 → ⊥) → (o : Option (List ℕ)) → next_numbers state rest ≡ o → run_listing p sys single first rest ≡ printed_by (suc n) state rest
      go e None q = fold-refused n e f q
      go e (Some l) q =
          let t : first < most_run_lines = next-early l q in
          run-next p sys single first rest l t (next-numbers l q) ∙ ap (λ (x : List ℕ). frame_line p sys single first l ++ x) (h l t) ∙ sym (fold-run n l e q)

-- the listing of what is left, by as many calls as lines may be left
pub fold-listing :
    (n : ℕ) (p : Plan) (sys : System) (single : Memory) (first : ℕ) (rest : List ℕ) →
    accepted p ≡ true →
    counts_ok p sys ≡ true →
    first ≤ most_run_lines →
    most_run_lines ≤ first + n →
    run_listing p sys single first rest ≡ printed_by (suc n) (record { plan = p; period = period p; system = sys; single = single; frame = first }) rest
unfolding run_after
fold-listing zero p sys single first rest a c f m = fold_more p sys single first rest a c 0 f (λ l t. absurd (omega arith))
fold-listing (suc n) p sys single first rest a c f m =
    fold_more p sys single first rest a c (suc n) f
    (λ l t. fold-listing n p (system_next p sys l) (single_after p single l) (first + 1) (drop (run_line_size p.sensors) rest) a (counts-next p sys l a) (omega arith) (omega arith))

-- ---- the whole listing

pub listing-folded : (plan run : List ℕ) → listing plan run ≡ folded plan run
unfolding listing lines_or folded start_answer unless start_of
listing-folded plan run = go (text_refusal plan) refl
  where
    go : (o : Option Refusal) → text_refusal plan ≡ o → listing plan run ≡ folded plan run
    go None q =
        rw q (fold-listing most_run_lines (plan_of plan) (power_on (plan_of plan)) (powered_on (plan_of plan)) 0 run (read-plan plan q) (counts_start (plan_of plan) (read-plan plan q)) (omega arith) (omega arith))
    go (Some x) q = rw q

-- and what the run prints in blocks of whole lines, but perhaps the last
pub listing-by-blocks : (plan : List ℕ) {blocks : List (List ℕ)} → WholeBlocks (run_line_size (plan_of plan).sensors) blocks → listing plan (joined_blocks blocks) ≡ by_blocks plan blocks
unfolding listing lines_or by_blocks start_answer unless start_of
listing-by-blocks plan {blocks} h = go (text_refusal plan) refl
  where
    go : (o : Option Refusal) → text_refusal plan ≡ o → listing plan (joined_blocks blocks) ≡ by_blocks plan blocks
    go None q = rw q (sym (blocks-listing (start_of (plan_of plan)) h))
    go (Some x) q = rw q
