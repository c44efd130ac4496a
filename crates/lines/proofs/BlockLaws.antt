-- Blocks of lines in a row print what the whole run prints.
use Rattle.std.specs.Prelude.{Option, None, Some, is_none}
use mathlib.Core.Path.{◌≡◌, refl, sym, ap, ◌∙◌}
use mathlib.Core.Bool.{Bool, true, false, cond}
use mathlib.Core.List.{List, [], ◌++◌, append_assoc, append-nil}
use Prim.Native.Nat.{ℕ, zero, suc, ◌+◌, ◌-◌, ◌*◌, ◌≤◌, ◌<◌}
use native.Mathlib.Omega.{arith}
use native.Mathlib.Nat.{zero-mul, suc-mul}
use lib.Dec.{ltb}
use lib.ListN.{length, take, drop, length-append, length-drop}
use lib.Seq.{length-take-le, take-nil, take-append-le, take-append-add, drop-append-le, take_at}
use borrow.Author.Tests.{lt-ltb, ltb-true, ltb-false}
use borrow.Rule.Slice.PartMut.{put_mid, same_len_mid}
use Rattle.array.specs.Index.{joined}
use Rattle.array.specs.Code.{placed}
use Rattle.array.proofs.TestLaws.{split}
use Rattle.answer.specs.declared.Refusal.{Refusal}
use Rattle.answer.specs.declared.Refusal.TheVariants.{RunLine}
use Rattle.plan.specs.declared.Plan.{Plan}
use Rattle.memory.specs.declared.Memory.{Memory}
use Rattle.system.specs.declared.System.{System}
use Rattle.run_line.specs.Line.{run_line_size, printed_size, run_numbers, refusal_line, refusal_size}
use Rattle.run_line.specs.Listing.{most_run_lines, is_some, system_next, single_after, frame_line, read_line, system_at, single_at, frames, printed, line_left, run_listing}
use Rattle.run_line.proofs.WritingLaws.{placed-whole, refusal-length}
use Rattle.lines.specs.declared.Run.{Run}
use Rattle.lines.specs.declared.Printed.{Printed}
use Rattle.lines.specs.Code.{block_lines, lines_answer, lines_place}
use Rattle.lines.specs.Blocks.{joined_blocks, WholeBlocks, nothing, last, next, block_listing, blocks_listing, LaidBlock}
use Rattle.lines.proofs.StepLaws.{cond_same, empty-of-length, nothing_read}
use Rattle.lines.proofs.RunLaws.{leading-is, frames-fit, printed_to, printed-length, lines-most, lines-length}
use Rattle.lines.proofs.NextLaws.{system-none, single-none, system-next, single-next, frames-next, left-next, printed-front, run-next}

-- ---- a run whose first line is not run

module _ (p : Plan) (sys : System) (single : Memory) (first : ℕ) (rest : List ℕ) (e : first < most_run_lines → run_numbers p.nodes p.sensors (take (run_line_size p.sensors) rest) ≡ None) where
  frames-stop : frames p sys single first rest ≡ 0
  unfolding frames read_line
  frames-stop =
      leading-is (λ k. is_some (read_line p sys single first rest k)) (most_run_lines - first) 0 (omega arith) (λ j l. absurd (omega arith))
      (λ l.
      let o : read_line p sys single first rest 0 ≡ None = rw (zero-mul (run_line_size p.sensors)) (e (omega arith)) in
      ap is_some o)

  printed-stop : printed p sys single first rest ≡ []
  unfolding printed joined
  printed-stop = rw frames-stop

  left-stop : line_left p sys single first rest ≡ ltb 0 (length rest)
  unfolding line_left
  left-stop = rw (frames-stop, zero-mul (run_line_size p.sensors))

  run-stop : run_listing p sys single first rest ≡ cond (ltb 0 (length rest)) (refusal_line (RunLine (first + 0 + 1))) []
  unfolding run_listing
  run-stop = rw (printed-stop, left-stop, frames-stop)

nothing-first : (p : Plan) → run_numbers p.nodes p.sensors (take (run_line_size p.sensors) []) ≡ None
nothing-first p = rw (take-nil {A = ℕ} (run_line_size p.sensors)) (nothing_read p.nodes p.sensors)

-- no bytes print nothing
pub run-nothing : (p : Plan) (sys : System) (single : Memory) (first : ℕ) → run_listing p sys single first [] ≡ []
run-nothing p sys single first = run-stop p sys single first [] (λ l. nothing-first p)

-- ---- whole lines, and what follows them

-- what is printed after the frames of `rest`: the refusal, if a line of it is refused, or what is printed of `more`
unfoldable pub afterwards : Plan → System → Memory → ℕ → List ℕ → List ℕ → List ℕ
afterwards p sys single first rest more =
    cond (line_left p sys single first rest) (refusal_line (RunLine (first + frames p sys single first rest + 1)))
    (run_listing p (system_at p sys single first rest (frames p sys single first rest)) (single_at p sys single first rest (frames p sys single first rest)) (first + frames p sys single first rest) more)

-- no line before `more`
none_then : (p : Plan) (sys : System) (single : Memory) (first : ℕ) (more : List ℕ) → run_listing p sys single first more ≡ printed p sys single first [] ++ afterwards p sys single first [] more
unfolding afterwards
none_then p sys single first more =
    let e : first < most_run_lines → run_numbers p.nodes p.sensors (take (run_line_size p.sensors) []) ≡ None = λ l. nothing-first p in
    let z : first + 0 ≡ first = omega arith in
    rw (printed-stop p sys single first [] e, left-stop p sys single first [] e, frames-stop p sys single first [] e, system-none p sys single first [], single-none p sys single first [], z)

module _ (p : Plan) (sys : System) (single : Memory) (first : ℕ) (rest more : List ℕ) (whole : run_line_size p.sensors ≤ length rest) where
  -- the first line is not run
  refused-then :
      (first < most_run_lines → run_numbers p.nodes p.sensors (take (run_line_size p.sensors) rest) ≡ None) →
      run_listing p sys single first (rest ++ more) ≡ printed p sys single first rest ++ afterwards p sys single first rest more
  unfolding afterwards
  refused-then e =
      let b : first < most_run_lines → run_numbers p.nodes p.sensors (take (run_line_size p.sensors) (rest ++ more)) ≡ None = λ l. rw (take-append-le (run_line_size p.sensors) rest more whole) (e l) in
      run-stop p sys single first (rest ++ more) b
      ∙ rw (lt-ltb 0 (length (rest ++ more)) (omega (arith, length-append rest more)), printed-stop p sys single first rest e, left-stop p sys single first rest e, frames-stop p sys single first rest e, lt-ltb 0 (length rest) (omega arith))

  -- the first line is run
  module _ (l : List ℕ) (early : first < most_run_lines) (e : run_numbers p.nodes p.sensors (take (run_line_size p.sensors) rest) ≡ Some l) where
    abbrev sys' : System
    sys' = system_next p sys l

    abbrev single' : Memory
    single' = single_after p single l

    abbrev rest' : List ℕ
    rest' = drop (run_line_size p.sensors) rest

    afterwards-next : afterwards p sys single first rest more ≡ afterwards p sys' single' (first + 1) rest' more
    unfolding afterwards
    afterwards-next =
        let f : ℕ = frames p sys' single' (first + 1) rest' in
        let n : first + suc f ≡ first + 1 + f = omega arith in
        rw (left-next p sys single first rest l early e, frames-next p sys single first rest l early e, system-next p sys single first rest l early e f, single-next p sys single first rest l early e f, n)

    taken_then :
        run_listing p sys' single' (first + 1) (rest' ++ more) ≡ printed p sys' single' (first + 1) rest' ++ afterwards p sys' single' (first + 1) rest' more →
        run_listing p sys single first (rest ++ more) ≡ printed p sys single first rest ++ afterwards p sys single first rest more
    taken_then h =
        let b : run_numbers p.nodes p.sensors (take (run_line_size p.sensors) (rest ++ more)) ≡ Some l = rw (take-append-le (run_line_size p.sensors) rest more whole) e in
        let d : drop (run_line_size p.sensors) (rest ++ more) ≡ rest' ++ more = drop-append-le (run_line_size p.sensors) rest more whole in
        run-next p sys single first (rest ++ more) l early b
        ∙ rw (d, h, printed-front p sys single first rest l early e, afterwards-next)
        (sym (append_assoc (frame_line p sys single first l) (printed p sys' single' (first + 1) rest') (afterwards p sys' single' (first + 1) rest' more)))

-- k whole lines, then more
pub block-then :
    (k : ℕ) (p : Plan) (sys : System) (single : Memory) (first : ℕ) (rest more : List ℕ) →
    length rest ≡ k * run_line_size p.sensors →
    run_listing p sys single first (rest ++ more) ≡ printed p sys single first rest ++ afterwards p sys single first rest more
block-then zero p sys single first rest more e =
    rw (empty-of-length rest (e ∙ zero-mul (run_line_size p.sensors))) (none_then p sys single first more)
block-then (suc k) p sys single first rest more e =
    let whole : run_line_size p.sensors ≤ length rest = omega (arith, e, suc-mul k (run_line_size p.sensors)) in
    let less : length (drop (run_line_size p.sensors) rest) ≡ k * run_line_size p.sensors =
    length-drop (run_line_size p.sensors) rest ∙ omega (arith, e, suc-mul k (run_line_size p.sensors)) in
    let then : (l : List ℕ) → run_listing p (system_next p sys l) (single_after p single l) (first + 1) (drop (run_line_size p.sensors) rest ++ more) ≡ printed p (system_next p sys l) (single_after p single l) (first + 1) (drop (run_line_size p.sensors) rest) ++ afterwards p (system_next p sys l) (single_after p single l) (first + 1) (drop (run_line_size p.sensors) rest) more =
    λ l. block-then k p (system_next p sys l) (single_after p single l) (first + 1) (drop (run_line_size p.sensors) rest) more less in
    split (ltb first most_run_lines)
    (λ t. go whole then (ltb-true first most_run_lines t) (run_numbers p.nodes p.sensors (take (run_line_size p.sensors) rest)) refl)
    (λ t. refused-then p sys single first rest more whole (λ l. absurd (omega (arith, ltb-false first most_run_lines t))))
  where
    go :
        run_line_size p.sensors ≤ length rest →
        ((l : List ℕ) → run_listing p (system_next p sys l) (single_after p single l) (first + 1) (drop (run_line_size p.sensors) rest ++ more) ≡ printed p (system_next p sys l) (single_after p single l) (first + 1) (drop (run_line_size p.sensors) rest) ++ afterwards p (system_next p sys l) (single_after p single l) (first + 1) (drop (run_line_size p.sensors) rest) more) →
        first < most_run_lines →
        (o : Option (List ℕ)) →
        run_numbers p.nodes p.sensors (take (run_line_size p.sensors) rest) ≡ o →
        run_listing p sys single first (rest ++ more) ≡ printed p sys single first rest ++ afterwards p sys single first rest more
    go whole then early None q = refused-then p sys single first rest more whole (λ l. q)
    go whole then early (Some l) q = taken_then p sys single first rest more whole l early q (then l)

module _ (p : Plan) (sys : System) (single : Memory) (first : ℕ) (rest more : List ℕ) where
  -- every line of `rest` is run: then the listing goes on with `more`, from the run after `rest`
  pub run-split :
      line_left p sys single first rest ≡ false →
      run_listing p sys single first (rest ++ more)
      ≡ printed p sys single first rest
      ++ run_listing p (system_at p sys single first rest (frames p sys single first rest)) (single_at p sys single first rest (frames p sys single first rest)) (first + frames p sys single first rest) more
  unfolding afterwards line_left
  run-split e =
      let n : ℕ = frames p sys single first rest in
      let k : length rest ≡ n * run_line_size p.sensors = omega (arith, frames-fit p sys single first rest, ltb-false (n * run_line_size p.sensors) (length rest) e) in
      block-then n p sys single first rest more k ∙ rw e

  -- a line of whole lines is refused: then the listing ends with them
  pub run_ends : (k : ℕ) → length rest ≡ k * run_line_size p.sensors → line_left p sys single first rest ≡ true → run_listing p sys single first (rest ++ more) ≡ run_listing p sys single first rest
  unfolding afterwards run_listing
  run_ends k n e = block-then k p sys single first rest more n ∙ rw e

-- ---- block after block

module _ (r : Run) (block : List ℕ) where
  abbrev left : Bool
  left = line_left r.plan r.system r.single r.frame block

  block-runs-on : left ≡ false → (then : List ℕ) → block_listing r block ++ cond (is_none (lines_answer r block).refused) then [] ≡ printed r.plan r.system r.single r.frame block ++ then
  unfolding lines_answer run_listing
  block-runs-on e then = rw (e, append-nil (printed r.plan r.system r.single r.frame block))

  block-ends : left ≡ true → (then : List ℕ) → block_listing r block ++ cond (is_none (lines_answer r block).refused) then [] ≡ block_listing r block
  unfolding lines_answer
  block-ends e then = rw e (append-nil (block_listing r block))

  -- the last block
  block_last : block_listing r block ++ cond (is_none (lines_answer r block).refused) [] [] ≡ block_listing r block
  block_last = rw (cond_same {A = List ℕ} (is_none (lines_answer r block).refused) []) (append-nil (block_listing r block))

  -- a block of whole lines, if those after it print the listing of their bytes
  block-first :
      (k : ℕ) (then more : List ℕ) →
      length block ≡ k * run_line_size r.plan.sensors →
      then ≡ block_listing (lines_answer r block).run more →
      block_listing r block ++ cond (is_none (lines_answer r block).refused) then [] ≡ block_listing r (block ++ more)
  unfolding lines_answer
  block-first k then more n h =
      split left
      (λ t. block-ends t then ∙ sym (run_ends r.plan r.system r.single r.frame block more k n t))
      (λ t. block-runs-on t then ∙ ap (λ (x : List ℕ). printed r.plan r.system r.single r.frame block ++ x) h ∙ sym (run-split r.plan r.system r.single r.frame block more t))

-- a run keeps its plan
run-plan : (r : Run) (block : List ℕ) → (lines_answer r block).run.plan ≡ r.plan
unfolding lines_answer
run-plan r block = refl

blocks-are : {size : ℕ} {blocks : List (List ℕ)} → WholeBlocks size blocks → (r : Run) → size ≡ run_line_size r.plan.sensors → blocks_listing r blocks ≡ block_listing r (joined_blocks blocks)
unfolding blocks_listing joined_blocks
blocks-are nothing r e = sym (run-nothing r.plan r.system r.single r.frame)
blocks-are (last block) r e = block_last r block ∙ ap (block_listing r) (sym (append-nil block))
blocks-are (next k block {blocks} n h) r e =
    let then : blocks_listing (lines_answer r block).run blocks ≡ block_listing (lines_answer r block).run (joined_blocks blocks) =
    blocks-are h (lines_answer r block).run (e ∙ ap (λ (p : Plan). run_line_size p.sensors) (sym (run-plan r block))) in
    block-first r block k (blocks_listing (lines_answer r block).run blocks) (joined_blocks blocks) (n ∙ ap (λ (x : ℕ). k * x) e) then

-- blocks of whole lines, but perhaps the last, print the listing of the joined bytes
pub blocks-listing : (r : Run) {blocks : List (List ℕ)} → WholeBlocks (run_line_size r.plan.sensors) blocks → blocks_listing r blocks ≡ block_listing r (joined_blocks blocks)
blocks-listing r h = blocks-are h r refl

-- ---- the bytes of a block, in its buffer

-- the lines
front-lines : (r : Run) (rest out : List ℕ) → take (lines_answer r rest).count (lines_place r rest out) ≡ printed r.plan r.system r.single r.frame rest
unfolding lines_answer lines_place printed
front-lines r rest out =
    let n : ℕ = frames r.plan r.system r.single r.frame rest in
    take_at (printed_to r.plan r.system r.single r.frame rest n) (drop (length (printed_to r.plan r.system r.single r.frame rest n)) out) (n * printed_size r.plan.actuators) (printed-length r.plan r.system r.single r.frame rest n)

-- the line of a refusal, if there is one
abbrev refused_line : Option Refusal → List ℕ
refused_line None = []
refused_line (Some q) = refusal_line q

front-then : (r : Run) (rest : List ℕ) → printed r.plan r.system r.single r.frame rest ++ refused_line (lines_answer r rest).refused ≡ block_listing r rest
unfolding lines_answer run_listing
front-then r rest = split (line_left r.plan r.system r.single r.frame rest) (λ t. rw t) (λ t. rw t)

-- no line is refused
front-done : (r : Run) (rest : List ℕ) → (lines_answer r rest).refused ≡ None → printed r.plan r.system r.single r.frame rest ≡ block_listing r rest
front-done r rest e =
    let lines : List ℕ = printed r.plan r.system r.single r.frame rest in
    sym (append-nil lines) ∙ ap (λ (o : Option Refusal). lines ++ refused_line o) (sym e) ∙ front-then r rest

-- a line is refused: its line follows
front-refused : (r : Run) (rest : List ℕ) {q : Refusal} → (lines_answer r rest).refused ≡ Some q → printed r.plan r.system r.single r.frame rest ++ refusal_line q ≡ block_listing r rest
front-refused r rest e = ap (λ (o : Option Refusal). printed r.plan r.system r.single r.frame rest ++ refused_line o) (sym e) ∙ front-then r rest

module _ (r : Run) (rest out to : List ℕ) (x : Printed) (l : length rest ≤ block_lines * run_line_size r.plan.sensors) (m : block_lines * printed_size r.plan.actuators + refusal_size ≤ length out) (e : x ≡ lines_answer r rest) (f : to ≡ lines_place r rest out) where
  less : block_lines * printed_size r.plan.actuators ≤ length out
  less = omega arith

  pub laid-most : x.count ≤ block_lines * printed_size r.plan.actuators
  laid-most = rw e (lines-most r rest out l less)

  -- the line of a refusal fits behind the lines
  pub laid-room : x.count + refusal_size ≤ length to
  laid-room =
      let k : length to ≡ length out = ap length f ∙ lines-length r rest out l less in
      omega (arith, laid-most)

  front-is : take x.count to ≡ printed r.plan r.system r.single r.frame rest
  front-is = rw (e, f) (front-lines r rest out)

  pub laid_done : x.refused ≡ None → LaidBlock r rest to x.count x.run
  laid_done z =
      record {
        fits = omega (arith, laid-room);
        front = front-is ∙ front-done r rest (ap (λ (y : Printed). y.refused) (sym e) ∙ z);
        run_is = ap (λ (y : Printed). y.run) e;
      }

  pub laid-refused :
      (part : List ℕ) {why : Refusal} →
      x.refused ≡ Some why →
      part ≡ placed (take (x.count + refusal_size - x.count) (drop x.count to)) 0 (refusal_line why) →
      LaidBlock r rest (put_mid x.count (x.count + refusal_size - x.count) to part) (x.count + refusal_size) x.run
  laid-refused part {why} z g =
      let n : x.count + refusal_size - x.count ≡ refusal_size = omega arith in
      let s : length (take (x.count + refusal_size - x.count) (drop x.count to)) ≡ refusal_size =
      ap (λ (k : ℕ). length (take k (drop x.count to))) n ∙ length-take-le refusal_size (drop x.count to) (omega (arith, length-drop x.count to, laid-room)) in
      let q : part ≡ refusal_line why = g ∙ placed-whole (take (x.count + refusal_size - x.count) (drop x.count to)) (refusal_line why) (refusal-length why ∙ sym s) in
      let k : length part ≡ refusal_size = ap length q ∙ refusal-length why in
      let c : length (take x.count to) ≡ x.count = length-take-le x.count to (omega (arith, laid-room)) in
      let post : List ℕ = drop (x.count + refusal_size - x.count) (drop x.count to) in
      record {
        fits = rw (same_len_mid x.count (x.count + refusal_size - x.count) to part (k ∙ sym s)) laid-room;
        front =
            ap (λ (i : ℕ). take (i + refusal_size) (take x.count to ++ (part ++ post))) (sym c)
            ∙ take-append-add (take x.count to) (part ++ post) refusal_size
            ∙ ap (λ (y : List ℕ). take x.count to ++ y) (take_at part post refusal_size k ∙ q)
            ∙ ap (λ (y : List ℕ). y ++ refusal_line why) front-is
            ∙ front-refused r rest (ap (λ (y : Printed). y.refused) (sym e) ∙ z);
        run_is = ap (λ (y : Printed). y.run) e;
      }
