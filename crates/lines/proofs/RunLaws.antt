-- A run, line by line: how many frames are run, and what stands after each of them.
use Rattle.std.specs.Prelude.{Option, None, Some, is_none, unwrap_or}
use mathlib.Core.Path.{◌≡◌, refl, sym, ap, ◌∙◌}
use mathlib.Core.Bool.{Bool, true, false, cond, ◌&&◌}
use mathlib.Core.List.{List, [], ◌++◌, append_assoc}
use Prim.Native.Nat.{ℕ, zero, suc, ◌+◌, ◌-◌, ◌*◌, ◌≤◌, ◌<◌, min}
use native.Mathlib.Omega.{arith}
use native.Mathlib.Numerals.{add-one}
use native.Mathlib.Nat.{zero-mul, suc-mul, mul-le-mul_right, le_of_mul-le-mul_right}
use lib.Dec.{eqb, ltb}
use lib.ListN.{length, take, drop, length-append, length-drop, drop_of_length-le}
use lib.Seq.{take-nil, take_at, drop_at, drop-drop}
use borrow.Author.Tests.{eq-eqb, eqb-true, eqb-false, lt-ltb, le-ltb, ltb-true, ltb-false}
use borrow.Rule.Slice.PartMut.{put_mid}
use Rattle.array.specs.Index.{joined}
use Rattle.array.proofs.TestLaws.{split, clash, and_left, and_right, and-false-left, and-false-right}
use Rattle.array.proofs.PlacesLaws.{joined-more}
use Rattle.answer.specs.declared.Refusal.{Refusal}
use Rattle.answer.specs.declared.Refusal.TheVariants.{RunLine}
use Rattle.plan.specs.declared.Plan.{Plan}
use Rattle.memory.specs.declared.Memory.{Memory}
use Rattle.system.specs.declared.System.{System}
use Rattle.run_line.specs.Line.{run_line_size, printed_size}
use Rattle.run_line.specs.Listing.{most_run_lines, leading, is_some, line_numbers, frame_line, read_line, read_numbers, system_at, single_at, printed_at, frames, printed, line_left}
use Rattle.run_line.proofs.WritingLaws.{frame-length}
use Rattle.lines.specs.declared.Printed.{Printed}
use Rattle.lines.specs.declared.Run.{Run}
use Rattle.lines.specs.Code.{block_lines, printed_with, frames_left, lines_answer, lines_place}
use Rattle.lines.proofs.StepLaws.{part-taken, take-fits, numbers-size, nothing_read, line-early, line-in-time}

-- ---- how many lines stand before the first that fails

module _ (q : ℕ → Bool) where
  leading-all : (n : ℕ) → ((k : ℕ) → k < n → q k ≡ true) → leading q n ≡ n
  unfolding leading
  leading-all zero h = refl
  leading-all (suc n) h =
      let e : leading q n ≡ n = leading-all n (λ k l. h k (omega arith)) in
      rw (e, eq-eqb n n refl, h n (omega arith))

  -- the first k pass, and the next, if there is one, fails
  pub leading-is : (n k : ℕ) → k ≤ n → ((j : ℕ) → j < k → q j ≡ true) → (k < n → q k ≡ false) → leading q n ≡ k
  unfolding leading
  leading-is zero k l h f = omega arith
  leading-is (suc n) k l h f =
      split (eqb k (suc n))
      (λ t. let e : k ≡ suc n = eqb-true k (suc n) t in leading-all (suc n) (λ j m. h j (omega arith)) ∙ sym e)
      (λ t.
      let m : k ≤ n = omega (arith, eqb-false k (suc n) t) in
      let e : leading q n ≡ k = leading-is n k m h (λ i. f (omega arith)) in
      rw e (stop (eqb k n) refl m))
    where
      stop : (t : Bool) → eqb k n ≡ t → k ≤ n → cond (eqb k n && q n) (suc n) k ≡ k
      stop true t m = let e : k ≡ n = eqb-true k n t in let g : q n ≡ false = ap q (sym e) ∙ f (omega arith) in rw (and-false-right (eqb k n) g)
      stop false t m = rw (and-false-left (q n) t)

-- ---- after k lines of what is left

module _ (p : Plan) (sys : System) (single : Memory) (first : ℕ) (rest : List ℕ) where
  abbrev size : ℕ
  size = run_line_size p.sensors

  abbrev width : ℕ
  width = printed_size p.actuators

  -- the bytes of line k
  abbrev pub line_bytes : ℕ → List ℕ
  line_bytes k = take size (drop (k * size) rest)

  abbrev pub printed_to : ℕ → List ℕ
  printed_to k = joined (printed_at p sys single first rest) k

  pub printed-length : (k : ℕ) → length (printed_to k) ≡ k * width
  unfolding joined printed_at
  printed-length zero = sym (zero-mul width)
  printed-length (suc k) =
      length-append (printed_to k) (printed_at p sys single first rest k)
      ∙ rw (printed-length k, frame-length p (system_at p sys single first rest k) (single_at p sys single first rest k) (first + k) (read_numbers p sys single first rest k), suc-mul k width)

  -- the buffer after k lines, all of them good
  pub record Ran (out₀ : List ℕ) (k : ℕ) (out : List ℕ) : Type 0 where
    pub few : first + k ≤ most_run_lines
    pub good : (j : ℕ) → j < k → is_some (read_line p sys single first rest j) ≡ true
    pub out-is : out ≡ printed_to k ++ drop (k * width) out₀

  pub ran-none : (out₀ : List ℕ) → first ≤ most_run_lines → Ran out₀ 0 out₀
  unfolding joined
  ran-none out₀ l = record { few = omega arith; good = λ j m. absurd (omega arith); out-is = ap (λ (n : ℕ). drop n out₀) (sym (zero-mul width)) }

  module _ {out₀ : List ℕ} {k : ℕ} {out : List ℕ} (h : Ran out₀ k out) where
    take-printed : take (k * width) out ≡ printed_to k
    take-printed = ap (take (k * width)) h.out-is ∙ take_at (printed_to k) (drop (k * width) out₀) (k * width) (printed-length k)

    drop-printed : drop (k * width) out ≡ drop (k * width) out₀
    drop-printed = ap (drop (k * width)) h.out-is ∙ drop_at (printed_to k) (drop (k * width) out₀) (k * width) (printed-length k)

    line-is : {l : List ℕ} → line_numbers p (first + k) (line_bytes k) ≡ Some l → read_line p sys single first rest k ≡ Some l
    unfolding read_line
    line-is {l} e = sym (line-early p (first + k) (line_bytes k) (line-in-time p (first + k) (line_bytes k) l e)) ∙ e

    pub numbers-are : {l : List ℕ} → line_numbers p (first + k) (line_bytes k) ≡ Some l → l ≡ read_numbers p sys single first rest k
    unfolding read_numbers
    numbers-are e = sym (ap (λ (x : Option (List ℕ)). unwrap_or x []) (line-is e))

    more-with :
        (to l : List ℕ) →
        line_numbers p (first + k) (line_bytes k) ≡ Some l →
        to ≡ frame_line p (system_at p sys single first rest k) (single_at p sys single first rest k) (first + k) l →
        Ran out₀ (k + 1) (put_mid (k * width) width out to)
    unfolding printed_at
    more-with to l o g =
        let v : read_line p sys single first rest k ≡ Some l = line-is o in
        let c : to ≡ printed_at p sys single first rest k = g ∙ rw (numbers-are o) in
        let w : k * width + width ≡ (k + 1) * width = sym (rw (add-one k) (suc-mul k width)) in
        let d : drop width (drop (k * width) out) ≡ drop ((k + 1) * width) out₀ = ap (drop width) drop-printed ∙ drop-drop width (k * width) out₀ ∙ ap (λ (i : ℕ). drop i out₀) w in
        record {
          few = let z : first + k < most_run_lines = line-in-time p (first + k) (line_bytes k) l o in omega arith;
          good = λ j m. split (eqb j k) (λ t. rw (eqb-true j k t, v)) (λ t. h.good j (omega (arith, eqb-false j k t)));
          out-is =
              rw (take-printed, c, d, joined-more (printed_at p sys single first rest) k)
              (sym (append_assoc (printed_to k) (printed_at p sys single first rest k) (drop ((k + 1) * width) out₀)));
        }

    -- one line more, with the numbers l, in a part that is b bytes from a on
    pub ran-more :
        (to l : List ℕ) {a b : ℕ} →
        a ≡ k * width →
        b ≡ width →
        line_numbers p (first + k) (line_bytes k) ≡ Some l →
        to ≡ frame_line p (system_at p sys single first rest k) (single_at p sys single first rest k) (first + k) l →
        Ran out₀ (k + 1) (put_mid a b out to)
    ran-more to l x y o g = rw (x, y) (more-with to l o g)

    -- line k is the first that is not run
    pub frames-are : (first + k < most_run_lines → read_line p sys single first rest k ≡ None) → frames p sys single first rest ≡ k
    unfolding frames
    frames-are e =
        leading-is (λ j. is_some (read_line p sys single first rest j)) (most_run_lines - first) k (omega (arith, h.few)) h.good
        (λ l. ap is_some (e (omega arith)))

    -- nothing is left
    pub ran-ended : length rest ≤ k * size → frames p sys single first rest ≡ k
    unfolding read_line
    ran-ended m =
        frames-are
        (λ l. rw (drop_of_length-le rest {i = k * size} m, take-nil {A = ℕ} size) (nothing_read p.nodes p.sensors))

    -- so this is what the lines give
    module _ (n : frames p sys single first rest ≡ k) (period : ℕ) where
      abbrev r : Run
      r = record { plan = p; period = period; system = sys; single = single; frame = first }

      -- with the refusal of what is left, if there is one
      abbrev pub standing : Option Refusal → Printed
      standing refused = printed_with refused (k * width) p period (system_at p sys single first rest k) (single_at p sys single first rest k) (first + k)

      pub place_is : out ≡ lines_place r rest out₀
      unfolding lines_place printed
      place_is = h.out-is ∙ rw (n, printed-length k)

      pub standing-refused : k * size < length rest → standing (Some (RunLine (first + k + 1))) ≡ lines_answer r rest
      unfolding lines_answer line_left
      standing-refused l = rw (n, lt-ltb (k * size) (length rest) l)

      pub standing-ended : length rest ≤ k * size → standing None ≡ lines_answer r rest
      unfolding lines_answer line_left
      standing-ended l = rw (n, le-ltb (k * size) (length rest) l)

-- ---- the places of a block of lines

-- line k of a block has its place: l and w are the sizes of a line read and of a line printed, a and b the lengths of what is read and of the buffer
pub block_room : (l w a b k : ℕ) {at to width : ℕ} → a ≤ block_lines * l → block_lines * w ≤ b → at ≡ k * l → to ≡ k * w → width ≡ w → at < a → (to + width ≤ b) × (to + width ≤ block_lines * w)
block_room l w a b k f g i j m h =
    let few : k < block_lines =
    split (ltb k block_lines) (λ t. ltb-true k block_lines t)
    (λ t. absurd (let m : block_lines * l ≤ k * l = mul-le-mul_right l (ltb-false k block_lines t) in omega arith)) in
    let n : (k + 1) * w ≤ block_lines * w = mul-le-mul_right w (let z : k + 1 ≤ block_lines = omega arith in z) in
    let e : (k + 1) * w ≡ k * w + w = rw (add-one k) (suc-mul k w) in
    (omega arith, omega arith)

pub one_more : (k w : ℕ) {x y : ℕ} → x ≡ k * w → y ≡ w → x + y ≡ (k + 1) * w
one_more k w e f = rw (e, f, add-one k) (sym (suc-mul k w))

-- the bytes of line k, in a part that ends with the bytes
pub line-bytes : (l : List ℕ) (k w : ℕ) {at size end : ℕ} → at ≡ k * w → size ≡ w → end ≡ min (at + size) (length l) → at ≤ length l → take (end - at) (drop at l) ≡ take w (drop (k * w) l)
line-bytes l k w {at} {size} e f g h =
    let t : take (min (at + size) (length l) - at) (drop at l) ≡ take size (drop at l) = part-taken l at size h in rw g (t ∙ rw (e, f))

-- ---- what is known of the frames that are run

leading-bound : (q : ℕ → Bool) (n : ℕ) → leading q n ≤ n
unfolding leading
leading-bound q zero = omega arith
leading-bound q (suc n) = let less : leading q n ≤ n = leading-bound q n in go (eqb (leading q n) n && q n) less
  where
    go : (t : Bool) → leading q n ≤ n → cond t (suc n) (leading q n) ≤ suc n
    go true less = omega arith
    go false less = omega arith

leading-good : (q : ℕ → Bool) (n j : ℕ) → j < leading q n → q j ≡ true
unfolding leading
leading-good q zero j l = absurd (omega arith)
leading-good q (suc n) j l =
    let before : j < leading q n → q j ≡ true = λ m. leading-good q n j m in
    go (eqb (leading q n) n && q n) refl before l
  where
    go : (t : Bool) → (eqb (leading q n) n && q n) ≡ t → (j < leading q n → q j ≡ true) → j < cond t (suc n) (leading q n) → q j ≡ true
    go true e before m =
        let all : leading q n ≡ n = eqb-true (leading q n) n (and_left (eqb (leading q n) n) (q n) e) in
        split (eqb j n) (λ t. rw (eqb-true j n t) (and_right (eqb (leading q n) n) (q n) e)) (λ t. before (omega (arith, eqb-false j n t)))
    go false e before m = before m

some-of-is_some : (o : Option (List ℕ)) → is_some o ≡ true → (l : List ℕ) × (o ≡ Some l)
some-of-is_some None e = absurd (clash e refl)
some-of-is_some (Some l) e = (l, refl)

module _ (p : Plan) (sys : System) (single : Memory) (first : ℕ) (rest : List ℕ) where
  -- a line that is of form is whole
  pub line-fits : (k : ℕ) {l : List ℕ} → read_line p sys single first rest k ≡ Some l → k * run_line_size p.sensors + run_line_size p.sensors ≤ length rest
  unfolding read_line
  line-fits k {l} e =
      let n : length (line_bytes p sys single first rest k) ≡ run_line_size p.sensors = numbers-size p.nodes p.sensors (line_bytes p sys single first rest k) l e in
      let f : run_line_size p.sensors ≤ length (drop (k * run_line_size p.sensors) rest) = take-fits (run_line_size p.sensors) (drop (k * run_line_size p.sensors) rest) n in
      omega (arith, length-drop (k * run_line_size p.sensors) rest)

  -- no more than are left of the most
  pub frames-bound : frames p sys single first rest ≤ most_run_lines - first
  unfolding frames
  frames-bound = leading-bound (λ k. is_some (read_line p sys single first rest k)) (most_run_lines - first)

  -- and all of whole lines
  fit-below : (n : ℕ) → n ≤ frames p sys single first rest → n * run_line_size p.sensors ≤ length rest
  unfolding frames
  fit-below zero l = omega (arith, zero-mul (run_line_size p.sensors))
  fit-below (suc n) l =
      let g = some-of-is_some (read_line p sys single first rest n) (leading-good (λ k. is_some (read_line p sys single first rest k)) (most_run_lines - first) n l) in
      omega (arith, line-fits n g.1, suc-mul n (run_line_size p.sensors))

  pub frames-fit : frames p sys single first rest * run_line_size p.sensors ≤ length rest
  frames-fit = fit-below (frames p sys single first rest) (omega arith)

-- ---- what a block of lines gives

module _ (r : Run) (rest : List ℕ) where
  -- where no line is refused the run has come further
  pub lines-further : (lines_answer r rest).refused ≡ None → 0 < length rest → r.frame < (lines_answer r rest).run.frame
  unfolding lines_answer line_left
  lines-further e f = go (frames_left r rest) refl
    where
      go : (n : ℕ) → frames_left r rest ≡ n → r.frame < r.frame + frames_left r rest
      go zero q =
          let z : frames_left r rest * run_line_size r.plan.sensors < length rest = rw q (omega (arith, zero-mul (run_line_size r.plan.sensors))) in
          let some : Some (RunLine (r.frame + frames_left r rest + 1)) ≡ None = sym (rw (lt-ltb (frames_left r rest * run_line_size r.plan.sensors) (length rest) z)) ∙ e in
          absurd (clash (ap is_none some) refl)
      go (suc n) q = omega arith

  pub lines-in-time : r.frame ≤ most_run_lines → (lines_answer r rest).run.frame ≤ most_run_lines
  unfolding lines_answer
  lines-in-time e = omega (arith, frames-bound r.plan r.system r.single r.frame rest)

module _ (r : Run) (rest out : List ℕ) (l : length rest ≤ block_lines * run_line_size r.plan.sensors) (m : block_lines * printed_size r.plan.actuators ≤ length out) where
  lines-few : frames_left r rest ≤ block_lines
  lines-few =
      le_of_mul-le-mul_right {k = run_line_size r.plan.sensors}
      (let f : frames_left r rest * run_line_size r.plan.sensors ≤ length rest = frames-fit r.plan r.system r.single r.frame rest in let z : frames_left r rest * run_line_size r.plan.sensors ≤ block_lines * run_line_size r.plan.sensors = omega arith in z)
      (omega arith)

  -- what is printed fits
  pub lines-most : (lines_answer r rest).count ≤ block_lines * printed_size r.plan.actuators
  unfolding lines_answer
  lines-most = mul-le-mul_right (printed_size r.plan.actuators) lines-few

  pub lines-count : (lines_answer r rest).count ≤ length out
  lines-count = omega (arith, lines-most)

  pub lines-length : length (lines_place r rest out) ≡ length out
  unfolding lines_place printed lines_answer
  lines-length =
      let n : length (printed_to r.plan r.system r.single r.frame rest (frames_left r rest)) ≡ frames_left r rest * printed_size r.plan.actuators = printed-length r.plan r.system r.single r.frame rest (frames_left r rest) in
      length-append (printed_to r.plan r.system r.single r.frame rest (frames_left r rest)) (drop (length (printed_to r.plan r.system r.single r.frame rest (frames_left r rest))) out)
      ∙ rw (length-drop (length (printed_to r.plan r.system r.single r.frame rest (frames_left r rest))) out) (omega (arith, n, lines-count))
