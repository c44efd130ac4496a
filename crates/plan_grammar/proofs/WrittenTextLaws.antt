-- The text of a well-formed record is refused by none of 1 to 5, and means the record.
use Rattle.std.specs.Prelude.{None, Some}
use mathlib.Core.Path.{◌≡◌, refl, sym, ap, subst, ◌∙◌}
use mathlib.Core.Bool.{Bool, true, false, cond, ◌&&◌, ◌||◌}
use mathlib.Core.List.{List, [], ◌∷◌, ◌++◌, append_assoc, append-nil}
use Prim.Native.Nat.{ℕ, zero, suc, ◌+◌, ◌-◌, ◌*◌, ◌%◌, ◌^◌, ◌≤◌, ◌<◌}
use native.Mathlib.Omega.{arith}
use native.Mathlib.Nat.{add-zero, add-suc, not-suc-le-zero}
use native.Mathlib.Numerals.{add-one}
use lib.Dec.{T, eqb, leb, ltb}
use lib.Ieee.{Float, binary64, fits}
use lib.Ieee.Bits.{of_bits-to_bits}
use lib.ListN.{length, get_or, length-append, get_or-append, get_or-eq_default}
use lib.Seq.{get_or-append_seam, ext_get_or}
use borrow.Author.Tests.{ltb-true, ltb-false, lt-ltb, le-leb, eq-eqb, ne_eqb}
use Rattle.array.specs.Index.{all_in, joined, fill}
use Rattle.array.proofs.TestLaws.{split, and_left, and_right, and_both}
use Rattle.array.proofs.PlacesLaws.{fill-length, fill-in, fill-out, fill-kept}
use Rattle.column.specs.Row.{Room}
use Rattle.pattern.specs.Pattern.{value_of, pattern_of}
use Rattle.pattern.proofs.PatternLaws.{pattern-bound}
use Rattle.plan.specs.declared.Op.{Op}
use Rattle.plan.specs.declared.Op.TheVariants.{Take, Sum, Diff, Scale, Limit, Wind, Cam}
use Rattle.plan.specs.declared.Task.{Task}
use Rattle.plan.specs.declared.Plan.{Plan}
use Rattle.plan.specs.Limits.{most_frames, most_cells, most_sensors, most_tasks}
use Rattle.plan.specs.Known.{reads}
use Rattle.plan.specs.Tables.{unused_task, task_at, vote_place, vote_frame, vote_cell, voted_in}
use Rattle.plan.specs.Accepted.{header_ok, constants_ok, op_ok, task_ok, op_storable, well_formed}
use Rattle.plan.proofs.AcceptedLaws.{Shape, shape_of}
use Rattle.plan_grammar.specs.Line.{widths, line_size, most_text_lines, line_count, numbers_at, line_at, kind_of, second, is_task, cell_kind, vote_kind, actuator_kind}
use Rattle.plan_grammar.specs.Meant.{zero_plan, op_of, task_of, with_line, plan_to, plan_of}
use Rattle.plan_grammar.specs.Written.{header_line, op_line, task_line, vote_line, lines_of, plan_text}
use Rattle.plan_grammar.specs.Refused.{length_ok, is_header, after_cells, task_in_order, smaller_vote, vote_in_order, actuator_in_order, in_order, task_zeros, in_range, first_refusal, is_last, lines_refusal}
use Rattle.plan_grammar.proofs.LineLaws.{line_at-is, written-numbers, written_count}
use Rattle.plan_grammar.proofs.RefusedLaws.{header-passes, line-through, lines_none}
use Rattle.plan_grammar.proofs.MeantLaws.{with_parts, with_task, with-header, with_cell_lem, with-task, with-vote, with-actuator}
use Rattle.plan_grammar.proofs.RecordPartLaws.{Cells, Tasks, Votes, Actuators, cells-none, tasks-none, votes-none, actuators-none}
use Rattle.plan_grammar.proofs.WrittenLaws.{cell_lines, task_lines, voted_line, voted_lines, lines_to, lines-whole, text-length, text-longest}

-- ---- the line of a task

value-of-pattern : (x : Float) → fits binary64 x ≡ true → value_of (pattern_of x) ≡ x
value-of-pattern x f = of_bits-to_bits binary64 x (subst T (sym f) tt)

-- what is known of the line of a task
pub record TaskLine (l : List ℕ) (t : Task) : Type 0 where
  pub kind : is_task (kind_of l) ≡ true
  pub no_cell : eqb (kind_of l) cell_kind ≡ false
  pub zeros : task_zeros l ≡ true
  pub frame : second l ≡ t.frame
  pub task : task_of l ≡ t
  pub stored : (q : Plan) → with_line l q ≡ with_task (task_of l) q

op-line : (f g : ℕ) (o : Op) → op_storable o ≡ true → TaskLine (op_line f g o) (record { frame = f; target = g; op = o })
unfolding op_line op_storable task_zeros task_of op_of is_task
op-line f g (Take s) e =
    record { kind = refl; no_cell = refl; zeros = refl; frame = refl; task = refl; stored = λ q. with-task q f g s 0 0 10 refl }
op-line f g (Sum a b) e =
    record { kind = refl; no_cell = refl; zeros = refl; frame = refl; task = refl; stored = λ q. with-task q f g a b 0 11 refl }
op-line f g (Diff a b) e =
    record { kind = refl; no_cell = refl; zeros = refl; frame = refl; task = refl; stored = λ q. with-task q f g a b 0 12 refl }
op-line f g (Scale a factor) e =
    record {
      kind = refl;
      no_cell = refl;
      zeros = refl;
      frame = refl;
      task = rw (value-of-pattern factor e);
      stored = λ q. with-task q f g a (pattern_of factor) 0 13 refl;
    }
op-line f g (Limit a low high) e =
    record {
      kind = refl;
      no_cell = refl;
      zeros = refl;
      frame = refl;
      task = rw (value-of-pattern low (and_left _ _ e), value-of-pattern high (and_right (fits binary64 low) _ e));
      stored = λ q. with-task q f g a (pattern_of low) (pattern_of high) 14 refl;
    }
op-line f g (Wind a law) e =
    record {
      kind = refl;
      no_cell = refl;
      zeros = refl;
      frame = refl;
      task = rw (value-of-pattern law.rate (and_left _ _ e), value-of-pattern law.cap (and_right (fits binary64 law.rate) _ e));
      stored = λ q. with-task q f g a (pattern_of law.rate) (pattern_of law.cap) 15 refl;
    }
op-line f g (Cam a) e =
    record { kind = refl; no_cell = refl; zeros = refl; frame = refl; task = refl; stored = λ q. with-task q f g a 0 0 16 refl }

pub task_line-is : (t : Task) → op_storable t.op ≡ true → TaskLine (task_line t) t
unfolding task_line
task_line-is t e = op-line t.frame t.target t.op e

-- ---- all numbers have room

abbrev Every : (List ℕ → Type 0) → List (List ℕ) → Type 0
Every P [] = Unit
Every P (l ∷ ls) = P l × Every P ls

module _ (P : List ℕ → Type 0) where
  every_append : (ls ms : List (List ℕ)) → Every P ls → Every P ms → Every P (ls ++ ms)
  every_append [] ms a b = b
  every_append (l ∷ ls) ms a b = (a.0, every_append ls ms a.1 b)

  every-joined : (f : ℕ → List (List ℕ)) (n : ℕ) → ((i : ℕ) → i < n → Every P (f i)) → Every P (joined f n)
  unfolding joined
  every-joined f zero e = tt
  every-joined f (suc n) e = every_append (joined f n) (f n) (every-joined f n (λ i l. e i (omega arith))) (e n (omega arith))

  every-at : (ls : List (List ℕ)) (i : ℕ) → Every P ls → i < length ls → P (get_or ls i [])
  every-at [] i e l = absurd (not-suc-le-zero l)
  every-at (m ∷ ls) zero e l = e.0
  every-at (m ∷ ls) (suc i) e l = every-at ls i e.1 (omega arith)

  every-if : (b : Bool) (l : List ℕ) → (b ≡ true → P l) → Every P (cond b (l ∷ []) [])
  every-if true l f = (f refl, tt)
  every-if false l f = tt

pub fits-small : (x : Float) → fits binary64 x ≡ true → pattern_of x < 2 ^ 64
fits-small x f = pattern-bound x (subst T (sym f) tt)

-- a test that is one of several joined by `&&`
ruleset joint = (and_left, and_right)

op_room :
    (cells sensors f g : ℕ) (o : Op) → cells ≤ most_cells → sensors ≤ most_sensors → f < most_frames → g < most_cells → op_ok cells sensors g o ≡ true → op_storable o ≡ true
    → Room widths (op_line f g o)
unfolding op_line op_ok constants_ok reads all_in op_storable
op_room cells sensors f g (Take s) c n lf lg e w = omega (arith, ltb-true s sensors e)
op_room cells sensors f g (Sum a b) c n lf lg e w = omega (arith, ltb-true a cells (search joint), ltb-true b cells (search joint))
op_room cells sensors f g (Diff a b) c n lf lg e w = omega (arith, ltb-true a cells (search joint), ltb-true b cells (search joint))
op_room cells sensors f g (Scale a factor) c n lf lg e w = omega (arith, ltb-true a cells (search joint), fits-small factor w)
op_room cells sensors f g (Limit a low high) c n lf lg e w =
    omega (arith, ltb-true a cells (search joint), fits-small low (and_left _ _ w), fits-small high (and_right (fits binary64 low) _ w))
op_room cells sensors f g (Wind a law) c n lf lg e w =
    omega (arith, ltb-true a cells (search joint), fits-small law.rate (and_left _ _ w), fits-small law.cap (and_right (fits binary64 law.rate) _ w))
op_room cells sensors f g (Cam a) c n lf lg e w = omega (arith, ltb-true a cells (search joint))

module _ (p : Plan) (w : Shape p) where
  task-room : (k : ℕ) → k < p.task_count → Room widths (task_line (task_at p k))
  unfolding task_line
  task-room k l =
      op_room p.cells p.sensors (task_at p k).frame (task_at p k).target (task_at p k).op w.cells-le w.sensors-le (omega (arith, w.frame k l, w.frames-le))
      (omega (arith, w.target k l, w.cells-le)) (w.op k l) (w.op-storable k l)

  lines-room : Every (Room widths) (lines_of p)
  unfolding header_line vote_line
  lines-room =
      rw (lines-whole p) (
        omega (arith, w.nodes-high, w.frames-le, w.cells-le, w.sensors-le, w.actuators-le),
        every_append (Room widths) (cell_lines p.initial p.cells) _
            (every-joined (Room widths) (λ c. (cell_kind ∷ c ∷ 0 ∷ 0 ∷ get_or p.initial c 0 ∷ 0 ∷ []) ∷ []) p.cells (λ c l. omega (arith, w.cells-le, w.initial-small c)))
            (every_append (Room widths) (task_lines p.tasks p.task_count) _
            (every-joined (Room widths) (λ k. task_line (task_at p k) ∷ []) p.task_count (λ k l. (task-room k l, tt)))
            (every_append (Room widths) (voted_lines p.voted (most_frames * most_cells)) _
            (every-joined (Room widths) (voted_line p.voted) (most_frames * most_cells) (λ e l. every-if (Room widths) (get_or p.voted e false) (vote_line (vote_frame e) (vote_cell e)) (λ v. omega arith)))
            (every-joined (Room widths) (λ i. (actuator_kind ∷ i ∷ get_or p.actuator_cell i 0 ∷ 0 ∷ 0 ∷ 0 ∷ []) ∷ []) p.actuators (λ i l. omega (arith, w.actuators-le, w.actuator i l, w.cells-le))))),
      )

-- ---- a text that begins with given lines

abbrev Begins : List ℕ → List (List ℕ) → Type 0
Begins s ls = (i : ℕ) → i < length ls → numbers_at s i ≡ Some (get_or ls i [])

begins-left : (s : List ℕ) (ks ls ms : List (List ℕ)) → ks ≡ ls ++ ms → Begins s ks → Begins s ls
begins-left s ks ls ms e b i l =
    subst (Begins s) e b i (omega (arith, length-append ls ms)) ∙ ap Some (get_or-append ls ms [] i l)

begins-last : (s : List ℕ) (ls : List (List ℕ)) (l : List ℕ) (n : ℕ) → length ls ≡ n → Begins s (ls ++ (l ∷ [])) → numbers_at s n ≡ Some l
begins-last s ls l n e b = b n (omega (arith, length-append ls (l ∷ []))) ∙ rw (← e) (ap Some (get_or-append_seam ls l [] []))

-- its lines ls are not refused, and mean q; prev is the last of them, and the next is line j after the header
record Passed (s : List ℕ) (ls : List (List ℕ)) (q : Plan) (prev : List ℕ) (j : ℕ) : Type 0 where
  pub size : length ls ≡ suc j
  pub plan : plan_to s (suc j) ≡ q
  pub through : first_refusal s (suc j) ≡ None
  pub last : line_at s j ≡ prev

module _ (s h : List ℕ) (first : line_at s 0 ≡ h) (ls : List (List ℕ)) (q : Plan) (prev : List ℕ) (j : ℕ) (l : List ℕ) where
  passed-line :
      Passed s ls q prev j → Begins s (ls ++ (l ∷ [])) → in_order h j prev l ≡ true → in_range h l ≡ true → Passed s (ls ++ (l ∷ [])) (with_line l q) l (suc j)
  unfolding plan_to first_refusal
  passed-line r b o i =
      let n : numbers_at s (suc j) ≡ Some l = begins-last s ls l (suc j) r.size b in
      let at : line_at s (suc j) ≡ l = line_at-is s (suc j) l n in
      let o1 : in_order (line_at s 0) j (line_at s j) l ≡ true = rw (first, r.last) o in
      let i1 : in_range (line_at s 0) l ≡ true = rw first i in
      record {
        size = length-append ls (l ∷ []) ∙ rw r.size (add-one (suc j));
        plan = rw (at, r.plan);
        through = rw r.through (line-through s j l n o1 i1);
        last = at;
      }

  passed-more :
      (ms : List (List ℕ)) (r : Plan) → ms ≡ ls ++ (l ∷ []) → with_line l q ≡ r → Passed s ls q prev j → Begins s ms → in_order h j prev l ≡ true
      → in_range h l ≡ true → Passed s ms r l (suc j)
  passed-more ms r e f t b o i =
      subst (λ (x : Plan). Passed s ms x l (suc j)) f
      (subst (λ (x : List (List ℕ)). Passed s x (with_line l q) l (suc j)) (sym e) (passed-line t (subst (Begins s) e b) o i))

-- ---- a record up to given counts: entries of p below them, those of z from there on

abbrev cut : Plan → Plan → ℕ → ℕ → ℕ → ℕ → Plan
cut p z c t e a =
    with_parts p (fill (λ i. get_or p.initial i 0) c z.initial) t (fill (task_at p) t z.tasks) (fill (λ x. get_or p.voted x false) e z.voted)
    (fill (λ i. get_or p.actuator_cell i 0) a z.actuator_cell)

module _ (p z : Plan) where
  cut-start : z.task_count ≡ 0 → with_line (header_line p) z ≡ cut p z 0 0 0 0
  unfolding header_line fill
  cut-start e = with-header z p.nodes p.frames p.cells p.sensors p.actuators ∙ rw e

  cut-cell : (c : ℕ) → with_line (cell_kind ∷ c ∷ 0 ∷ 0 ∷ get_or p.initial c 0 ∷ 0 ∷ []) (cut p z c 0 0 0) ≡ cut p z (suc c) 0 0 0
  unfolding fill
  cut-cell c = with_cell_lem (cut p z c 0 0 0) c 0 0 (get_or p.initial c 0) 0

  cut-task : (c t : ℕ) → TaskLine (task_line (task_at p t)) (task_at p t) → with_line (task_line (task_at p t)) (cut p z c t 0 0) ≡ cut p z c (suc t) 0 0
  unfolding fill
  cut-task c t l = l.stored (cut p z c t 0 0) ∙ rw (l.task, add-one t)

  cut-vote : (c t e : ℕ) → get_or p.voted e false ≡ true → with_line (vote_line (vote_frame e) (vote_cell e)) (cut p z c t e 0) ≡ cut p z c t (suc e) 0
  unfolding fill vote_line
  cut-vote c t e v =
      let at : vote_place (vote_frame e) (vote_cell e) ≡ e = omega arith in
      with-vote (cut p z c t e 0) (vote_frame e) (vote_cell e) 0 0 0 ∙ rw (at, v)

  cut-no-vote : (c t e : ℕ) → get_or p.voted e false ≡ get_or z.voted e false → cut p z c t e 0 ≡ cut p z c t (suc e) 0
  cut-no-vote c t e v = rw (← add-one e, ← fill-kept (λ x. get_or p.voted x false) e z.voted false v)

  cut-actuator :
      (c t e a : ℕ) → with_line (actuator_kind ∷ a ∷ get_or p.actuator_cell a 0 ∷ 0 ∷ 0 ∷ 0 ∷ []) (cut p z c t e a) ≡ cut p z c t e (suc a)
  unfolding fill
  cut-actuator c t e a = with-actuator (cut p z c t e a) a (get_or p.actuator_cell a 0) 0 0 0

-- ---- the lines up to given counts, one more

module _ (p : Plan) where
  lines-cell : (c : ℕ) → lines_to p (suc c) 0 0 0 ≡ lines_to p c 0 0 0 ++ ((cell_kind ∷ c ∷ 0 ∷ 0 ∷ get_or p.initial c 0 ∷ 0 ∷ []) ∷ [])
  unfolding joined
  lines-cell c = simp (append_assoc, append-nil)

  lines-task : (c t : ℕ) → lines_to p c (suc t) 0 0 ≡ lines_to p c t 0 0 ++ (task_line (task_at p t) ∷ [])
  unfolding joined
  lines-task c t = simp (append_assoc, append-nil)

  lines-vote : (c t e : ℕ) → get_or p.voted e false ≡ true → lines_to p c t (suc e) 0 ≡ lines_to p c t e 0 ++ (vote_line (vote_frame e) (vote_cell e) ∷ [])
  unfolding joined
  lines-vote c t e v = rw v (simp (append_assoc, append-nil))

  lines-no-vote : (c t e : ℕ) → get_or p.voted e false ≡ false → lines_to p c t (suc e) 0 ≡ lines_to p c t e 0
  unfolding joined
  lines-no-vote c t e v = rw v (simp append-nil)

  lines-actuator : (c t e a : ℕ) → lines_to p c t e (suc a) ≡ lines_to p c t e a ++ ((actuator_kind ∷ a ∷ get_or p.actuator_cell a 0 ∷ 0 ∷ 0 ∷ 0 ∷ []) ∷ [])
  unfolding joined
  lines-actuator c t e a = simp append_assoc

-- ---- the lines of a well-formed record, part by part

-- a vote of a later entry is in order
later-vote : (e x : ℕ) → e < x → (ltb (vote_frame e) (vote_frame x) || (eqb (vote_frame e) (vote_frame x) && ltb (vote_cell e) (vote_cell x))) ≡ true
later-vote e x l =
    split (ltb (vote_frame e) (vote_frame x)) (λ t. rw t)
    (λ t.
    let n = ltb-false (vote_frame e) (vote_frame x) t in
    rw (t, eq-eqb (vote_frame e) (vote_frame x) (omega arith)) (lt-ltb (vote_cell e) (vote_cell x) (omega arith)))

or_left : (a b : Bool) → a ≡ true → (a || b) ≡ true
or_left a b e = rw e

or_later : (a b : Bool) → b ≡ true → (a || b) ≡ true
or_later true b e = refl
or_later false b e = e

module _ (p : Plan) (w : Shape p) (z : Plan) (blank : (x : ℕ) → get_or z.voted x false ≡ false) (s : List ℕ) (first : line_at s 0 ≡ header_line p) (start : Passed s (header_line p ∷ []) (cut p z 0 0 0 0) (header_line p) 0) where
  -- the cells
  cells-passed :
      (c : ℕ) → c ≤ p.cells → Begins s (lines_to p c 0 0 0) → (prev : List ℕ) × Passed s (lines_to p c 0 0 0) (cut p z c 0 0 0) prev c
  unfolding joined in_order in_range header_line
  cells-passed zero l b = (header_line p, start)
  cells-passed (suc c) l b =
      let r = cells-passed c (omega arith) (begins-left s (lines_to p (suc c) 0 0 0) (lines_to p c 0 0 0) _ (lines-cell p c) b) in (
        cell_kind ∷ c ∷ 0 ∷ 0 ∷ get_or p.initial c 0 ∷ 0 ∷ [],
        passed-more s (header_line p) first (lines_to p c 0 0 0) (cut p z c 0 0 0) r.0 c _ (lines_to p (suc c) 0 0 0) (cut p z (suc c) 0 0 0) (lines-cell p c) (cut-cell p z c)
            r.1 b (and_both (lt-ltb c p.cells l) (eq-eqb c c refl)) refl,
      )

  -- the tasks
  record OnTasks (t : ℕ) : Type 0 where
    pub prev : List ℕ
    pub passed : Passed s (lines_to p p.cells t 0 0) (cut p z p.cells t 0 0) prev (p.cells + t)
    pub kind : (k : ℕ) → t ≡ suc k → is_task (kind_of prev) ≡ true
    pub frame : (k : ℕ) → t ≡ suc k → second prev ≡ (task_at p k).frame

  task-after : (t : ℕ) → t < p.task_count → (r : OnTasks t) → (after_cells (header_line p) (p.cells + t) || (is_task (kind_of r.prev) && leb (second r.prev) (task_at p t).frame)) ≡ true
  unfolding after_cells header_line
  task-after zero l r = or_left _ _ (eq-eqb (p.cells + 0) p.cells (add-zero p.cells))
  task-after (suc k) l r = or_later (after_cells (header_line p) (p.cells + suc k)) _ (and_both (r.kind k refl) (le-leb (second r.prev) (task_at p (suc k)).frame (omega (arith, r.frame k refl, w.order k l))))

  task-order : (t : ℕ) → t < p.task_count → (r : OnTasks t) → in_order (header_line p) (p.cells + t) r.prev (task_line (task_at p t)) ≡ true
  unfolding in_order task_in_order header_line
  task-order t l r =
      let x = task_line-is (task_at p t) (w.op-storable t l) in
      rw (x.no_cell, x.kind, x.frame)
      (and_both (le-leb p.cells (p.cells + t) (omega arith)) (and_both (lt-ltb (p.cells + t) (p.cells + most_tasks) (omega (arith, w.tasks-le))) (task-after t l r)))

  task-range : (t : ℕ) → t < p.task_count → in_range (header_line p) (task_line (task_at p t)) ≡ true
  unfolding in_range header_line task_ok
  task-range t l =
      let x = task_line-is (task_at p t) (w.op-storable t l) in
      rw (x.no_cell, x.kind, x.task)
      (and_both (and_both (and_both (lt-ltb _ _ (w.frame t l)) (lt-ltb _ _ (w.target t l))) (w.op t l)) x.zeros)

  tasks-passed : (t : ℕ) → t ≤ p.task_count → Begins s (lines_to p p.cells t 0 0) → OnTasks t
  tasks-passed zero l b =
      let r = cells-passed p.cells (omega arith) b in
      record { prev = r.0; passed = rw (add-zero p.cells) r.1; kind = λ k e. absurd (omega arith); frame = λ k e. absurd (omega arith) }
  tasks-passed (suc t) l b =
      let r = tasks-passed t (omega arith) (begins-left s (lines_to p p.cells (suc t) 0 0) (lines_to p p.cells t 0 0) _ (lines-task p p.cells t) b) in
      let x = task_line-is (task_at p t) (w.op-storable t l) in
      let same : (k : ℕ) → suc t ≡ suc k → t ≡ k = λ k e. omega arith in
      record {
        prev = task_line (task_at p t);
        passed =
            rw (add-suc p.cells t)
            (passed-more s (header_line p) first (lines_to p p.cells t 0 0) (cut p z p.cells t 0 0) r.prev (p.cells + t) (task_line (task_at p t)) (lines_to p p.cells (suc t) 0 0) (cut p z p.cells (suc t) 0 0)
            (lines-task p p.cells t) (cut-task p z p.cells t x) r.passed b (task-order t l r) (task-range t l));
        kind = λ k e. x.kind;
        frame = λ k e. rw (← same k e) x.frame;
      }

  -- the votes
  record OnVotes (e : ℕ) : Type 0 where
    pub prev : List ℕ
    pub j : ℕ
    pub past : p.cells ≤ j
    pub passed : Passed s (lines_to p p.cells p.task_count e 0) (cut p z p.cells p.task_count e 0) prev j
    pub vote : (x : ℕ) → e ≤ x → vote_in_order (header_line p) j prev (vote_line (vote_frame x) (vote_cell x)) ≡ true
    pub actuator : (after_cells (header_line p) j || (is_task (kind_of prev) || eqb (kind_of prev) vote_kind)) ≡ true

  votes-start : (t : ℕ) → t ≡ p.task_count → OnTasks t → OnVotes 0
  unfolding vote_in_order after_cells header_line
  votes-start zero e r =
      let start : eqb (p.cells + 0) p.cells ≡ true = eq-eqb (p.cells + 0) p.cells (add-zero p.cells) in
      record {
        prev = r.prev;
        j = p.cells + 0;
        past = omega arith;
        passed = subst (λ (n : ℕ). Passed s (lines_to p p.cells n 0 0) (cut p z p.cells n 0 0) r.prev (p.cells + 0)) e r.passed;
        vote = λ x l. or_left _ _ start;
        actuator = or_left _ _ start;
      }
  votes-start (suc k) e r =
      record {
        prev = r.prev;
        j = p.cells + suc k;
        past = omega arith;
        passed = subst (λ (n : ℕ). Passed s (lines_to p p.cells n 0 0) (cut p z p.cells n 0 0) r.prev (p.cells + suc k)) e r.passed;
        vote = λ x l. or_later (eqb (p.cells + suc k) p.cells) _ (or_left _ _ (r.kind k refl));
        actuator = or_later (eqb (p.cells + suc k) p.cells) _ (or_left _ _ (r.kind k refl));
      }

  vote-order : (e : ℕ) → (r : OnVotes e) → in_order (header_line p) r.j r.prev (vote_line (vote_frame e) (vote_cell e)) ≡ true
  unfolding in_order header_line vote_line is_task
  vote-order e r = and_both (le-leb p.cells r.j r.past) (r.vote e (omega arith))

  vote-range : (e : ℕ) → get_or p.voted e false ≡ true → in_range (header_line p) (vote_line (vote_frame e) (vote_cell e)) ≡ true
  unfolding in_range header_line vote_line is_task voted_in
  vote-range e v =
      let at : vote_place (vote_frame e) (vote_cell e) ≡ e = omega arith in
      let v1 : get_or p.voted (vote_place (vote_frame e) (vote_cell e)) false ≡ true = rw at v in
      and_both (and_both (lt-ltb _ _ (w.voted-frame (vote_frame e) (vote_cell e) (omega arith) v1)) (lt-ltb _ _ (w.voted-cell (vote_frame e) (vote_cell e) (omega arith) v1))) refl

  votes-hit : (e : ℕ) → get_or p.voted e false ≡ true → Begins s (lines_to p p.cells p.task_count (suc e) 0) → OnVotes e → OnVotes (suc e)
  unfolding vote_in_order smaller_vote vote_line
  votes-hit e v b r =
      let cs = p.cells in
      let ts = p.task_count in
      record {
        prev = vote_line (vote_frame e) (vote_cell e);
        j = suc r.j;
        past = omega (arith, r.past);
        passed =
            passed-more s (header_line p) first (lines_to p cs ts e 0) (cut p z cs ts e 0) r.prev r.j (vote_line (vote_frame e) (vote_cell e)) (lines_to p cs ts (suc e) 0) (cut p z cs ts (suc e) 0) (lines-vote p cs ts e v) (cut-vote p z cs ts e v) r.passed b (vote-order e r) (vote-range e v);
        vote = λ x l. or_later (after_cells (header_line p) (suc r.j)) _ (or_later (is_task vote_kind) _ (later-vote e x l));
        actuator = or_later (after_cells (header_line p) (suc r.j)) _ (or_later (is_task vote_kind) _ refl);
      }

  votes-miss : (e : ℕ) → get_or p.voted e false ≡ false → OnVotes e → OnVotes (suc e)
  votes-miss e v r =
      let cs = p.cells in
      let ts = p.task_count in
      record {
        prev = r.prev;
        j = r.j;
        past = r.past;
        passed =
            subst (λ (q : Plan). Passed s (lines_to p cs ts (suc e) 0) q r.prev r.j) (cut-no-vote p z cs ts e (v ∙ sym (blank e)))
            (subst (λ (ls : List (List ℕ)). Passed s ls (cut p z cs ts e 0) r.prev r.j) (sym (lines-no-vote p cs ts e v)) r.passed);
        vote = λ x l. r.vote x (omega arith);
        actuator = r.actuator;
      }

  votes-passed : (e : ℕ) → Begins s (lines_to p p.cells p.task_count e 0) → OnVotes e
  votes-passed zero b = votes-start p.task_count refl (tasks-passed p.task_count (omega arith) b)
  votes-passed (suc e) b =
      split (get_or p.voted e false)
      (λ v. votes-hit e v b (votes-passed e (begins-left s _ (lines_to p p.cells p.task_count e 0) _ (lines-vote p p.cells p.task_count e v) b)))
      (λ v. votes-miss e v (votes-passed e (subst (Begins s) (lines-no-vote p p.cells p.task_count e v) b)))

  -- the actuators
  record OnActuators (e a : ℕ) : Type 0 where
    pub prev : List ℕ
    pub j : ℕ
    pub past : p.cells ≤ j
    pub passed : Passed s (lines_to p p.cells p.task_count e a) (cut p z p.cells p.task_count e a) prev j
    pub ready :
        cond (eqb a 0) (after_cells (header_line p) j || (is_task (kind_of prev) || eqb (kind_of prev) vote_kind)) (eqb (kind_of prev) actuator_kind && eqb (second prev + 1) a)
        ≡ true

  actuator-order : (e a : ℕ) → a < p.actuators → (r : OnActuators e a) → in_order (header_line p) r.j r.prev (actuator_kind ∷ a ∷ get_or p.actuator_cell a 0 ∷ 0 ∷ 0 ∷ 0 ∷ []) ≡ true
  unfolding in_order actuator_in_order header_line is_task
  actuator-order e a l r = and_both (le-leb p.cells r.j r.past) (and_both (lt-ltb a p.actuators l) r.ready)

  actuator-range : (a : ℕ) → a < p.actuators → in_range (header_line p) (actuator_kind ∷ a ∷ get_or p.actuator_cell a 0 ∷ 0 ∷ 0 ∷ 0 ∷ []) ≡ true
  unfolding in_range header_line is_task
  actuator-range a l = and_both (lt-ltb _ _ (w.actuator a l)) refl

  actuators-passed : (e a : ℕ) → a ≤ p.actuators → Begins s (lines_to p p.cells p.task_count e a) → OnActuators e a
  actuators-passed e zero l b =
      let r = votes-passed e b in
      record { prev = r.prev; j = r.j; past = r.past; passed = r.passed; ready = r.actuator }
  actuators-passed e (suc a) l b =
      let cs = p.cells in
      let ts = p.task_count in
      let r = actuators-passed e a (omega arith) (begins-left s (lines_to p cs ts e (suc a)) (lines_to p cs ts e a) _ (lines-actuator p cs ts e a) b) in
      record {
        prev = actuator_kind ∷ a ∷ get_or p.actuator_cell a 0 ∷ 0 ∷ 0 ∷ 0 ∷ [];
        j = suc r.j;
        past = omega (arith, r.past);
        passed =
            passed-more s (header_line p) first (lines_to p cs ts e a) (cut p z cs ts e a) r.prev r.j (actuator_kind ∷ a ∷ get_or p.actuator_cell a 0 ∷ 0 ∷ 0 ∷ 0 ∷ []) (lines_to p cs ts e (suc a)) (cut p z cs ts e (suc a)) (lines-actuator p cs ts e a) (cut-actuator p z cs ts e a) r.passed b (actuator-order e a l r) (actuator-range a l);
        ready = rw (ne_eqb (suc a) 0 (λ n. omega arith), add-one a) (eq-eqb (suc a) (suc a) refl);
      }

  -- the last line is that of the last actuator
  at-end : (e : ℕ) → (r : OnActuators e p.actuators) → is_last (header_line p) r.prev ≡ true
  unfolding is_last header_line
  at-end e r = rw (ne_eqb p.actuators 0 (λ n. omega (arith, w.actuators-pos))) at r.ready

-- ---- the whole record

filled :
    {A : Type 0} (d : A) (l m : List A) (n : ℕ) → length l ≡ length m → n ≤ length m → ((i : ℕ) → get_or m i d ≡ d) → ((i : ℕ) → n ≤ i → get_or l i d ≡ d)
    → fill (λ i. get_or l i d) n m ≡ l
filled d l m n e k f g =
    ext_get_or d (fill (λ i. get_or l i d) n m) l (fill-length (λ i. get_or l i d) n m ∙ sym e)
    (λ i h.
    split (ltb i n) (λ t. fill-in (λ i. get_or l i d) n m i d (ltb-true i n t) (omega (arith, fill-length (λ i. get_or l i d) n m)))
    (λ t. fill-out (λ i. get_or l i d) n m i d (ltb-false i n t) ∙ f i ∙ sym (g i (ltb-false i n t))))

module _ (p z : Plan) (w : Shape p) (cells : Cells z.initial 0) (tasks : Tasks 0 0 0 z.tasks 0) (votes : Votes 0 0 z.voted 0) (actuators : Actuators 0 z.actuator_cell 0) where
  cut-whole : cut p z p.cells p.task_count (most_frames * most_cells) p.actuators ≡ p
  cut-whole =
      let i = filled 0 p.initial z.initial p.cells (w.initial-length ∙ sym cells.size) (omega (arith, cells.size, w.cells-le)) (λ i. cells.rest i (omega arith)) w.initial-zero in
      let t = filled unused_task p.tasks z.tasks p.task_count (w.tasks-length ∙ sym tasks.size) (omega (arith, tasks.size, w.tasks-le)) (λ k. tasks.rest k (omega arith)) w.unused in
      let v = filled false p.voted z.voted (most_frames * most_cells) (w.voted-length ∙ sym votes.size) (omega (arith, votes.size)) (λ x. votes.rest x (omega arith)) (λ x l. get_or-eq_default p.voted false {n = x} (omega (arith, w.voted-length))) in
      let a = filled 0 p.actuator_cell z.actuator_cell p.actuators (w.actuator-length ∙ sym actuators.size) (omega (arith, actuators.size, w.actuators-le)) (λ i. actuators.rest i (omega arith)) w.actuator-zero in
      λ k. with_parts p (i k) p.task_count (t k) (v k) (a k)

-- ---- the text

header_ok_lem : (p : Plan) → Shape p → is_header (header_line p) ≡ true
unfolding is_header header_line header_ok
header_ok_lem p w = search (and_both, le-leb) depth 8

module _ (p : Plan) (wf : well_formed p ≡ true) where
  shape : Shape p
  shape = shape_of p wf

  text-begins : Begins (plan_text p) (lines_of p)
  unfolding plan_text
  text-begins = written-numbers (lines_of p) (λ i l. every-at (Room widths) (lines_of p) i (lines-room p shape) l)

  first-numbers : numbers_at (plan_text p) 0 ≡ Some (header_line p)
  unfolding lines_of
  first-numbers = text-begins 0 (omega arith)

  first-line-is : line_at (plan_text p) 0 ≡ header_line p
  first-line-is = line_at-is (plan_text p) 0 (header_line p) first-numbers

  first-passed : Passed (plan_text p) (header_line p ∷ []) (cut p zero_plan 0 0 0 0) (header_line p) 0
  unfolding plan_to first_refusal
  first-passed =
      record {
        size = refl;
        plan = ap (λ (l : List ℕ). with_line l zero_plan) first-line-is ∙ cut-start p zero_plan refl;
        through = header-passes (plan_text p) (header_line p) first-numbers (header_ok_lem p shape);
        last = first-line-is;
      }

  all-passed : OnActuators p shape zero_plan (λ x. (votes-none 0 0).rest x (omega arith)) (plan_text p) first-line-is first-passed (most_frames * most_cells) p.actuators
  all-passed =
      actuators-passed p shape zero_plan (λ x. (votes-none 0 0).rest x (omega arith)) (plan_text p) first-line-is first-passed (most_frames * most_cells) p.actuators
      (omega arith) (subst (Begins (plan_text p)) (lines-whole p) text-begins)

  count-is : line_count (plan_text p) ≡ suc all-passed.j
  unfolding plan_text
  count-is = written_count (lines_of p) ∙ ap length (lines-whole p) ∙ all-passed.passed.size

  -- 1 does not apply
  pub plan_text-length : length_ok (length (plan_text p)) ≡ true
  unfolding length_ok
  plan_text-length =
      let n = text-length p in
      let m = text-longest p wf in
      and_both (and_both (lt-ltb 0 (length (plan_text p)) (omega arith)) (le-leb (length (plan_text p)) (line_size * most_text_lines) m)) (eq-eqb (length (plan_text p) % line_size) 0 (omega arith))

  -- nor do 2 to 5
  pub plan_text-lines : lines_refusal (plan_text p) ≡ None
  plan_text-lines =
      let e : line_count (plan_text p) - 1 ≡ all-passed.j = omega (arith, count-is) in
      lines_none (plan_text p) (rw count-is all-passed.passed.through)
      (rw (e, first-line-is, all-passed.passed.last) (at-end p shape zero_plan (λ x. (votes-none 0 0).rest x (omega arith)) (plan_text p) first-line-is first-passed (most_frames * most_cells) all-passed))

  -- and it means the record
  pub plan-of-text : plan_of (plan_text p) ≡ p
  unfolding plan_of
  plan-of-text =
      ap (plan_to (plan_text p)) count-is ∙ all-passed.passed.plan
      ∙ cut-whole p zero_plan shape cells-none (tasks-none 0 0 0) (votes-none 0 0) (actuators-none 0)
