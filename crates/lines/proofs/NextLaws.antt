-- The first line of a run, and those after it.
use Rattle.std.specs.Prelude.{Option, Some, unwrap_or}
use mathlib.Core.Path.{◌≡◌, refl, sym, ap, ◌∙◌}
use mathlib.Core.Bool.{Bool, true, false, cond, ◌&&◌}
use mathlib.Core.List.{List, [], ◌++◌, append_assoc}
use Prim.Native.Nat.{ℕ, zero, suc, ◌+◌, ◌-◌, ◌*◌, ◌<◌}
use native.Mathlib.Omega.{arith}
use native.Mathlib.Nat.{zero-mul, suc-mul}
use lib.Dec.{eqb, ltb}
use lib.ListN.{length, take, drop, length-drop}
use lib.Seq.{drop-drop}
use borrow.Author.Tests.{eq-eqb, ne_eqb, eqb-true, eqb-false, lt-ltb, le-ltb, ltb-true, ltb-false}
use Rattle.array.proofs.TestLaws.{split}
use Rattle.array.proofs.PlacesLaws.{joined_same}
use Rattle.answer.specs.declared.Refusal.TheVariants.{RunLine}
use Rattle.plan.specs.declared.Plan.{Plan}
use Rattle.memory.specs.declared.Memory.{Memory}
use Rattle.system.specs.declared.System.{System}
use Rattle.run_line.specs.Line.{run_line_size, run_numbers, refusal_line}
use Rattle.run_line.specs.Listing.{most_run_lines, leading, is_some, system_next, single_after, frame_line, read_line, read_numbers, system_at, single_at, printed_at, frames, printed, line_left, run_listing}
use Rattle.run_line.proofs.WritingLaws.{joined-front}

-- ---- how many lines stand before the first that fails, one line on

eqb-suc : (a b : ℕ) → eqb (suc a) (suc b) ≡ eqb a b
eqb-suc a b =
    split (eqb a b)
    (λ t. rw t (eq-eqb (suc a) (suc b) (ap suc (eqb-true a b t))))
    (λ t. rw t (ne_eqb (suc a) (suc b) (λ e. eqb-false a b t (omega arith))))

cond-suc : (t : Bool) (a b : ℕ) → cond t (suc a) (suc b) ≡ suc (cond t a b)
cond-suc true a b = refl
cond-suc false a b = refl

leading_step : (q : ℕ → Bool) (n : ℕ) → leading q (suc n) ≡ cond (eqb (leading q n) n && q n) (suc n) (leading q n)
unfolding leading
leading_step q n = refl

leading-one : (q : ℕ → Bool) → q 0 ≡ true → leading q 1 ≡ suc (leading (λ k. q (suc k)) 0)
unfolding leading
leading-one q e = rw e

leading-front : (q : ℕ → Bool) (n : ℕ) → q 0 ≡ true → leading q (suc n) ≡ suc (leading (λ k. q (suc k)) n)
leading-front q zero e = leading-one q e
leading-front q (suc n) e =
    let h : leading q (suc n) ≡ suc (leading (λ k. q (suc k)) n) = leading-front q n e in
    leading_step q (suc n)
    ∙ ap (λ (x : ℕ). cond (eqb x (suc n) && q (suc n)) (suc (suc n)) x) h
    ∙ rw (eqb-suc (leading (λ k. q (suc k)) n) n) (cond-suc (eqb (leading (λ k. q (suc k)) n) n && q (suc n)) (suc n) (leading (λ k. q (suc k)) n))
    ∙ ap suc (sym (leading_step (λ k. q (suc k)) n))

leading-same : (q r : ℕ → Bool) (n : ℕ) → ((k : ℕ) → q k ≡ r k) → leading q n ≡ leading r n
unfolding leading
leading-same q r zero e = refl
leading-same q r (suc n) e = rw (leading-same q r n e, e n)

-- ---- a run whose first line has the numbers l

module _ (p : Plan) (sys : System) (single : Memory) (first : ℕ) (rest : List ℕ) where
  pub system-none : system_at p sys single first rest 0 ≡ sys
  unfolding system_at
  system-none = refl

  system-more : (k : ℕ) → system_at p sys single first rest (suc k) ≡ system_next p (system_at p sys single first rest k) (read_numbers p sys single first rest k)
  unfolding system_at
  system-more k = refl

  pub single-none : single_at p sys single first rest 0 ≡ single
  unfolding single_at
  single-none = refl

  single_more : (k : ℕ) → single_at p sys single first rest (suc k) ≡ single_after p (single_at p sys single first rest k) (read_numbers p sys single first rest k)
  unfolding single_at
  single_more k = refl

module _ (p : Plan) (sys : System) (single : Memory) (first : ℕ) (rest l : List ℕ) (early : first < most_run_lines) (e : run_numbers p.nodes p.sensors (take (run_line_size p.sensors) rest) ≡ Some l) where
  abbrev size : ℕ
  size = run_line_size p.sensors

  abbrev sys' : System
  sys' = system_next p sys l

  abbrev single' : Memory
  single' = single_after p single l

  abbrev rest' : List ℕ
  rest' = drop size rest

  first-line : read_line p sys single first rest 0 ≡ Some l
  unfolding read_line
  first-line = rw (zero-mul size) e

  first-numbers : read_numbers p sys single first rest 0 ≡ l
  unfolding read_numbers
  first-numbers = rw first-line

  line-next : (k : ℕ) → read_line p sys single first rest (suc k) ≡ read_line p sys' single' (first + 1) rest' k
  unfolding read_line
  line-next k =
      let n : suc k * size ≡ size + k * size = suc-mul k size ∙ omega arith in
      let d : drop (suc k * size) rest ≡ drop (k * size) rest' = ap (λ (i : ℕ). drop i rest) n ∙ sym (drop-drop (k * size) size rest) in
      ap (λ (x : List ℕ). run_numbers p.nodes p.sensors (take size x)) d

  numbers-next : (k : ℕ) → read_numbers p sys single first rest (suc k) ≡ read_numbers p sys' single' (first + 1) rest' k
  unfolding read_numbers
  numbers-next k = ap (λ (o : Option (List ℕ)). unwrap_or o []) (line-next k)

  pub system-next : (k : ℕ) → system_at p sys single first rest (suc k) ≡ system_at p sys' single' (first + 1) rest' k
  system-next zero = system-more p sys single first rest 0 ∙ rw (first-numbers, system-none p sys single first rest) (sym (system-none p sys' single' (first + 1) rest'))
  system-next (suc k) =
      let h : system_at p sys single first rest (suc k) ≡ system_at p sys' single' (first + 1) rest' k = system-next k in
      system-more p sys single first rest (suc k)
      ∙ rw (h, numbers-next k) (sym (system-more p sys' single' (first + 1) rest' k))

  pub single-next : (k : ℕ) → single_at p sys single first rest (suc k) ≡ single_at p sys' single' (first + 1) rest' k
  single-next zero = single_more p sys single first rest 0 ∙ rw (first-numbers, single-none p sys single first rest) (sym (single-none p sys' single' (first + 1) rest'))
  single-next (suc k) =
      let h : single_at p sys single first rest (suc k) ≡ single_at p sys' single' (first + 1) rest' k = single-next k in
      single_more p sys single first rest (suc k)
      ∙ rw (h, numbers-next k) (sym (single_more p sys' single' (first + 1) rest' k))

  printed-next : (k : ℕ) → printed_at p sys single first rest (suc k) ≡ printed_at p sys' single' (first + 1) rest' k
  unfolding printed_at
  printed-next k =
      let n : first + suc k ≡ first + 1 + k = omega arith in
      rw (system-next k, single-next k, numbers-next k, n)

  pub frames-next : frames p sys single first rest ≡ suc (frames p sys' single' (first + 1) rest')
  unfolding frames
  frames-next =
      let n : most_run_lines - first ≡ suc (most_run_lines - (first + 1)) = omega arith in
      rw n (leading-front (λ k. is_some (read_line p sys single first rest k)) (most_run_lines - (first + 1)) (ap is_some first-line))
      ∙ ap suc (leading-same (λ k. is_some (read_line p sys single first rest (suc k))) (λ k. is_some (read_line p sys' single' (first + 1) rest' k)) (most_run_lines - (first + 1)) (λ k. ap is_some (line-next k)))

  pub left-next : line_left p sys single first rest ≡ line_left p sys' single' (first + 1) rest'
  unfolding line_left
  left-next = rw (frames-next, length-drop size rest) (same (frames p sys' single' (first + 1) rest'))
    where
      same : (n : ℕ) → ltb (suc n * size) (length rest) ≡ ltb (n * size) (length rest - size)
      same n =
          split (ltb (n * size) (length rest - size))
          (λ t. rw t (lt-ltb (suc n * size) (length rest) (omega (arith, suc-mul n size, ltb-true (n * size) (length rest - size) t))))
          (λ t. rw t (le-ltb (suc n * size) (length rest) (omega (arith, suc-mul n size, ltb-false (n * size) (length rest - size) t))))

  first-printed : printed_at p sys single first rest 0 ≡ frame_line p sys single first l
  unfolding printed_at
  first-printed =
      let n : first + 0 ≡ first = omega arith in
      rw (system-none p sys single first rest, single-none p sys single first rest, first-numbers, n)

  -- what is printed of them
  pub printed-front : printed p sys single first rest ≡ frame_line p sys single first l ++ printed p sys' single' (first + 1) rest'
  unfolding printed
  printed-front =
      let f : ℕ = frames p sys' single' (first + 1) rest' in
      rw frames-next
      (joined-front (printed_at p sys single first rest) f
      ∙ rw first-printed (ap (λ (x : List ℕ). frame_line p sys single first l ++ x) (joined_same (λ k. printed_at p sys single first rest (suc k)) (printed_at p sys' single' (first + 1) rest') f (λ k m. printed-next k))))

  pub run-next : run_listing p sys single first rest ≡ frame_line p sys single first l ++ run_listing p sys' single' (first + 1) rest'
  unfolding run_listing
  run-next =
      let f : ℕ = frames p sys' single' (first + 1) rest' in
      let n : first + suc f + 1 ≡ first + 1 + f + 1 = omega arith in
      rw (printed-front, frames-next, left-next, n)
      (append_assoc (frame_line p sys single first l) (printed p sys' single' (first + 1) rest') (cond (line_left p sys' single' (first + 1) rest') (refusal_line (RunLine (first + 1 + f + 1))) []))
