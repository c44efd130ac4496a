-- `run::follow` meets its contract: each block begins with the run that the one before left. It ends: each block that is read whole brings the run nearer to its last line.
use Rattle.std.specs.Prelude.{Option, None, Some, is_none}
use mathlib.Core.Path.{◌≡◌, refl, sym, ap, ◌∙◌, subst}
use mathlib.Core.Bool.{Bool, true, false, ◌&&◌}
use mathlib.Core.List.{List, [], ◌++◌}
use Prim.Native.Nat.{ℕ, ◌-◌, ◌*◌, ◌≤◌, ◌<◌}
use lib.Dec.{eqb}
use native.Mathlib.Omega.{arith}
use lib.ListN.{length, take, drop, length-replicate}
use lib.Seq.{length-take-le, length_front, take_at}
use borrow.Author.Tests.{eqb-true, eqb-false}
use Rattle.array.proofs.TestLaws.{clash, and_left, and_right}
use Rattle.answer.specs.declared.Refusal.{Refusal}
use Rattle.plan.specs.declared.Plan.{Plan}
use Rattle.plan.specs.declared.Sizes.{Sizes}
use Rattle.plan.specs.Known.{period}
use Rattle.plan.specs.Limits.{most_nodes}
use Rattle.plan.specs.Sizes.{sizes_with, sizes_of}
use Rattle.plan.specs.Accepted.{accepted}
use Rattle.plan.proofs.AcceptedLaws.{shape-of-accepted}
use Rattle.system.specs.Fault.{faults_size}
use Rattle.faults.specs.Code.{Small}
use Rattle.faults.proofs.LayoutLaws.{small-of-shape, most-enough, held-zero}
use Rattle.run_line.specs.Listing.{most_run_lines}
use Rattle.lines.specs.declared.Run.{Run}
use Rattle.lines.specs.Code.{lines_answer}
use Rattle.lines.specs.Blocks.{block_listing, LaidBlock}
use Rattle.lines.proofs.StepLaws.{front_length}
use Rattle.lines.proofs.RunLaws.{lines-further, lines-in-time}
use Rattle.run.specs.Followed.{nothing, further, Reached}
use borrow.Author.Tests.{not-true, not-false}
use Rattle.run.proofs.follow.Goals as goal

pub line_size-size-requires : goal.line_size-size-requires
line_size-size-requires g c = (shape-of-accepted _ c.requires.0).sensors-le

pub overflow_mul-size : goal.overflow_mul-size
overflow_mul-size g c = omega (arith, c.line_size-size.ensures, (shape-of-accepted c.args.start.plan c.requires.0).sensors-le)

pub size-bytes-requires : goal.size-bytes-requires
size-bytes-requires g c =
    let h = shape-of-accepted c.args.start.plan c.requires.0 in
    subst Small (sym c.sizes_with.ensures) (record { nodes = h.nodes-high; cells = h.cells-le; actuators = h.actuators-le })

pub loop-input-init : goal.loop-input-init
loop-input-init g c =
    let z : ℕ = 0 in
    (c.requires.0, c.requires.1, c.requires.2, refl, length-replicate 42112 z, length-replicate 23181 z, length-replicate most_nodes z, length-replicate 14896 z, held-zero (sizes_of c.args.start.plan) 14896 0 (c.size-bytes.result - 0), record { read = []; printed = []; passed = nothing })

pub slice_bounds-input-end : goal.slice_bounds-input-end
slice_bounds-input-end g c = omega (arith, c.line_size-size.ensures, (shape-of-accepted c.args.start.plan c.requires.0).sensors-le, c.loop-input.invariant.4)

-- the fault bytes of the run's plan lie in the buffer
bytes_fit : (p : Plan) {s : Sizes} {n len : ℕ} → accepted p ≡ true → {r : ℕ} → s ≡ sizes_with p r → n ≡ faults_size s → len ≡ 14896 → (n ≡ faults_size (sizes_of p)) × (n ≤ len)
bytes_fit p {s} {n} {len} a {r} e f l =
    let same : n ≡ faults_size (sizes_of p) = f ∙ ap faults_size e in
    (same, omega (arith, most-enough (sizes_of p) (small-of-shape p (shape-of-accepted p a))))

pub slice_bounds-faults-end : goal.slice_bounds-faults-end
slice_bounds-faults-end g c = (bytes_fit c.args.start.plan c.requires.0 c.sizes_with.ensures c.size-bytes.ensures c.loop-input.invariant.7).1

pub slice_bounds-out-end : goal.slice_bounds-out-end
slice_bounds-out-end g c = omega (arith, c.loop-input.invariant.5)

pub block-read-requires : goal.block-read-requires
block-read-requires g c =
    let l = c.loop-input in
    let a = c.args in
    let size = c.line_size-size in
    let h = shape-of-accepted a.start.plan c.requires.0 in
    let p = shape-of-accepted l.run.plan l.invariant.0 in
    let same : l.run.plan.sensors ≡ a.start.plan.sensors = ap (λ (q : Plan). q.sensors) l.invariant.3 in
    let n : length (take (128 * size.result - 0) l.input) ≡ 128 * size.result = front_length l.input refl (omega (arith, size.ensures, h.sensors-le, l.invariant.4)) in
    let m : length (take 23181 l.out) ≡ 23181 = length-take-le 23181 l.out (omega (arith, l.invariant.5)) in
    let b = bytes_fit a.start.plan c.requires.0 c.sizes_with.ensures c.size-bytes.ensures l.invariant.7 in
    let f : length (take (c.size-bytes.result - 0) l.faults) ≡ faults_size (sizes_of l.run.plan) = front_length l.faults refl b.1 ∙ b.0 ∙ ap (λ (q : Plan). faults_size (sizes_of q)) (sym l.invariant.3) in
    (l.invariant.0, l.invariant.1, l.invariant.2, omega (arith, n, size.ensures, same), l.invariant.6, f, l.invariant.8, omega (arith, m, p.actuators-le))

none-is : (o : Option Refusal) → is_none o ≡ true → o ≡ None
none-is None e = refl
none-is (Some q) e = absurd (clash e refl)

-- the run that a block leaves
module _ (r : Run) (input out : List ℕ) (got count : ℕ) (left : Run) (h : LaidBlock r (take got input) out count left) where
  left-plan : left.plan ≡ r.plan
  unfolding lines_answer
  left-plan = ap (λ (x : Run). x.plan) h.run_is

  left-period : left.period ≡ r.period
  unfolding lines_answer
  left-period = ap (λ (x : Run). x.period) h.run_is

  left-in-time : r.frame ≤ most_run_lines → left.frame ≤ most_run_lines
  left-in-time f = rw h.run_is (lines-in-time r (take got input) f)

  left-done : {more : Bool} → more ≡ (is_none (lines_answer r (take got input)).refused && eqb got (length input)) → more ≡ true → (lines_answer r (take got input)).refused ≡ None
  left-done m t = none-is _ (and_left _ (eqb got (length input)) (sym m ∙ t))

  left-short :
      {more : Bool} → more ≡ (is_none (lines_answer r (take got input)).refused && eqb got (length input)) → more ≡ false → got ≤ length input →
      (lines_answer r (take got input)).refused ≡ None → length (take got input) < length input
  left-short m t fits e =
      let b : (is_none (lines_answer r (take got input)).refused && eqb got (length input)) ≡ false = sym m ∙ t in
      let short : eqb got (length input) ≡ false = rw e at b in
      omega (arith, length-take-le got input fits, eqb-false got (length input) short, fits)

  left-reached : {start : Run} → (lines_answer r (take got input)).refused ≡ None → Reached start r → Reached start left
  left-reached {start} e before =
      subst (Reached start) (sym h.run_is) (record { read = before.read ++ take got input; printed = before.printed ++ block_listing r (take got input); passed = further before.passed (take got input) e })

  left-further : {more : Bool} → more ≡ (is_none (lines_answer r (take got input)).refused && eqb got (length input)) → more ≡ true → 0 < length input → r.frame < left.frame
  left-further m t f =
      let b : (is_none (lines_answer r (take got input)).refused && eqb got (length input)) ≡ true = sym m ∙ t in
      let whole : got ≡ length input = eqb-true got (length input) (and_right (is_none (lines_answer r (take got input)).refused) (eqb got (length input)) b) in
      let some : 0 < length (take got input) = omega (arith, length-take-le got input (omega arith)) in
      rw h.run_is (lines-further r (take got input) (left-done m t) some)

pub returns-then-not-read : goal.returns-then-not-read
returns-then-not-read g c =
    let b = c.block-read in
    let l = c.loop-input in
    let a = c.args in
    let h = shape-of-accepted a.start.plan c.requires.0 in
    let size = c.line_size-size in
    let n : length (take (128 * size.result - 0) l.input) ≡ 128 * size.result = front_length l.input refl (omega (arith, size.ensures, h.sensors-le, l.invariant.4)) in
    record {
      before = l.run;
      reached = l.invariant.9;
      last = take b.result.got b.new.input;
      ends = λ e. omega (arith, left-short l.run b.new.input _ b.result.got _ _ b.ensures.2 b.ensures.3 (not-true _ c.if-not-read.true) b.ensures.1 e, b.ensures.0, n, size.ensures);
      left_is = b.ensures.2.run_is;
    }

pub loop-input-smaller : goal.loop-input-smaller
loop-input-smaller g c =
    let b = c.block-read in
    let l = c.loop-input in
    let a = c.args in
    let h = shape-of-accepted a.start.plan c.requires.0 in
    let n : length (take (128 * c.line_size-size.result - 0) l.input) ≡ 128 * c.line_size-size.result = front_length l.input refl (omega (arith, c.line_size-size.ensures, h.sensors-le, l.invariant.4)) in
    let t : b.result.run.frame ≤ most_run_lines = left-in-time l.run b.new.input _ b.result.got _ _ b.ensures.2 l.invariant.2 in
    let f : l.run.frame < b.result.run.frame = left-further l.run b.new.input _ b.result.got _ _ b.ensures.2 b.ensures.3 (not-false _ c.if-not-read.false) (omega (arith, b.ensures.0, n, c.line_size-size.ensures)) in
    omega (arith, t, f)

-- a front that comes back as it was lent
front-back : (l part rest : List ℕ) (k n : ℕ) → length part ≡ length (take k l) → k ≡ n → n ≤ length l → take k (part ++ rest) ≡ part
front-back l part rest k n e z f = take_at part rest k (e ∙ length-take-le k l (omega arith))

pub loop-input-preserved : goal.loop-input-preserved
loop-input-preserved g c =
    let l = c.loop-input in
    let b = c.block-read in
    let k = c.size-bytes.result in
    let fit = bytes_fit c.args.start.plan c.requires.0 c.sizes_with.ensures c.size-bytes.ensures l.invariant.7 in
    let part : List ℕ = b.new.faults in
    let rest : List ℕ = drop (k - 0) l.faults in
    let back : take (k - 0) (part ++ rest) ≡ part = front-back l.faults part rest (k - 0) k b.ensures.5 (omega arith) fit.1 in
    let plan : b.result.run.plan ≡ l.run.plan = left-plan l.run b.new.input _ b.result.got _ _ b.ensures.2 in (
      ap accepted plan ∙ l.invariant.0,
      left-period l.run b.new.input _ b.result.got _ _ b.ensures.2 ∙ l.invariant.1 ∙ ap period (sym plan),
      left-in-time l.run b.new.input _ b.result.got _ _ b.ensures.2 l.invariant.2,
      plan ∙ l.invariant.3,
      length_front l.input b.new.input (128 * c.line_size-size.result - 0) b.ensures.0 ∙ l.invariant.4,
      length_front l.out b.new.out 23181 b.ensures.7 ∙ l.invariant.5,
      b.ensures.4,
      length_front l.faults b.new.faults (k - 0) b.ensures.5 ∙ l.invariant.7,
      rw (back, plan) b.ensures.6,
      left-reached l.run b.new.input _ b.result.got _ _ b.ensures.2 (left-done l.run b.new.input _ b.result.got _ _ b.ensures.2 b.ensures.3 (not-false _ c.if-not-read.false)) l.invariant.9,
    )
