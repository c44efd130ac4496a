-- The lines of a text that none of 2 to 5 refuses are those of the record that they mean.
use Rattle.std.specs.Prelude.{None}
use mathlib.Core.Path.{◌≡◌, refl, sym, ap, ◌∙◌, subst}
use mathlib.Core.Bool.{Bool, true, false, cond, ◌&&◌, ◌||◌}
use mathlib.Core.List.{List, [], ◌∷◌, ◌++◌, append_assoc, append-nil}
use Prim.Native.Nat.{ℕ, zero, suc, ◌+◌, ◌-◌, ◌*◌, ◌^◌, ◌≤◌, ◌<◌}
use native.Mathlib.Omega.{arith}
use native.Mathlib.Numerals.{add-one}
use lib.Dec.{eqb, leb, ltb}
use lib.ListN.{length, get_or, set}
use lib.Seq.{get_or-set_same}
use borrow.Author.Tests.{ltb-true, leb-true, eqb-true, eqb-false, ne_eqb}
use Rattle.array.specs.Index.{joined}
use Rattle.array.proofs.TestLaws.{split, clash, and_left, and_right, and-false-right}
use Rattle.column.specs.Row.{Room}
use Rattle.column.proofs.RowLaws.{room_bound}
use Rattle.plan.specs.declared.Task.{Task}
use Rattle.plan.specs.declared.Plan.{Plan}
use Rattle.plan.specs.Limits.{most_frames, most_cells, most_tasks, most_actuators}
use Rattle.plan.specs.Tables.{unused_task, task_at, vote_place, vote_frame, vote_cell, voted_in}
use Rattle.plan.specs.Accepted.{header_ok, task_ok, op_storable, well_formed}
use Rattle.plan.proofs.AcceptedLaws.{Shape, well_formed-of}
use Rattle.plan_grammar.specs.Line.{widths, line_count, line_at, kind_of, second, third, fourth, fifth, sixth, is_task, header_kind, cell_kind, vote_kind, actuator_kind}
use Rattle.plan_grammar.specs.Meant.{zero_plan, task_of, with_line, plan_to, plan_of}
use Rattle.plan_grammar.specs.Written.{header_line, task_line, vote_line, lines_of, written, plan_text}
use Rattle.plan_grammar.specs.Refused.{length_ok, is_header, after_cells, task_in_order, smaller_vote, vote_in_order, actuator_in_order, in_order, in_range, first_refusal, is_last, lines_refusal}
use Rattle.plan_grammar.proofs.LineLaws.{some-line, lines_from, six-numbers, line-room, text-written}
use Rattle.plan_grammar.proofs.RefusedLaws.{first-before, first-line, line-form, line-header, line-order, line-range, lines-first, lines-last}
use Rattle.plan_grammar.proofs.MeantLaws.{by_kind, task-line, op-storable, with_cell, with_task, with_vote, with_actuator, with-header, with_cell_lem, with-task, with-vote, with-actuator}
use Rattle.plan_grammar.proofs.RecordPartLaws.{Cells, Tasks, Votes, Actuators, cells-none, cells-more, tasks-none, tasks-more, votes-none, votes-more, actuators-none, actuators-more}
use Rattle.plan_grammar.proofs.WrittenLaws.{lines_to, lines-whole, cells-line, tasks-line, votes-line, actuators-line, votes-rest}

-- ---- what the lines ls have told: of the record q that they mean, c cells, t tasks, the votes below entry e and a actuators

record Told (ls : List (List ℕ)) (q : Plan) (c t e a : ℕ) : Type 0 where
  pub lines : ls ≡ lines_to q c t e a
  pub header : header_ok q.nodes q.frames q.cells q.sensors q.actuators 0 ≡ true
  pub cells : Cells q.initial c
  pub count : q.task_count ≡ t
  pub tasks : Tasks q.frames q.cells q.sensors q.tasks t
  pub votes : Votes q.frames q.cells q.voted e
  pub actuators : Actuators q.cells q.actuator_cell a

-- how far the lines are, by the last of them: the next is line j after the header
data Stage (q : Plan) (j : ℕ) (prev : List ℕ) : ℕ → ℕ → ℕ → ℕ → Type 0 where
  in_cells : j ≤ q.cells → kind_of prev ≤ cell_kind → Stage q j prev j 0 0 0
  in-tasks : {k : ℕ} → is_task (kind_of prev) ≡ true → (task_at q k).frame ≡ second prev → j ≡ q.cells + suc k → Stage q j prev q.cells (suc k) 0 0
  in-votes : {t n : ℕ} → kind_of prev ≡ vote_kind → vote_place (second prev) (third prev) ≡ n → third prev < most_cells → q.cells < j → Stage q j prev q.cells t (suc n) 0
  in-actuators : {t e n : ℕ} → kind_of prev ≡ actuator_kind → second prev ≡ n → q.cells < j → Stage q j prev q.cells t e (suc n)

-- ---- one line more

header-cells : (q : Plan) → header_ok q.nodes q.frames q.cells q.sensors q.actuators 0 ≡ true → q.cells ≤ most_cells
unfolding header_ok
header-cells q h = search (and_left, and_right, leb-true) depth 8

header-frames : (q : Plan) → header_ok q.nodes q.frames q.cells q.sensors q.actuators 0 ≡ true → q.frames ≤ most_frames
unfolding header_ok
header-frames q h = search (and_left, and_right, leb-true) depth 8

header-actuators : (q : Plan) → header_ok q.nodes q.frames q.cells q.sensors q.actuators 0 ≡ true → q.actuators ≤ most_actuators
unfolding header_ok
header-actuators q h = search (and_left, and_right, leb-true) depth 8

module _ (ls : List (List ℕ)) (q : Plan) where
  told-cell : (c v : ℕ) → Told ls q c 0 0 0 → v < 2 ^ 64 → c < q.cells → Told (ls ++ ((cell_kind ∷ c ∷ 0 ∷ 0 ∷ v ∷ 0 ∷ []) ∷ [])) (with_cell c v q) (suc c) 0 0 0
  unfolding joined header_line
  told-cell c v h l m =
      let few : c < most_cells = omega (arith, header-cells q h.header) in
      record {
        lines = rw (h.lines, cells-line q.initial c v (omega (arith, h.cells.size))) (simp (append_assoc, append-nil));
        header = h.header;
        cells = cells-more q.initial c v h.cells l few;
        count = h.count;
        tasks = h.tasks;
        votes = h.votes;
        actuators = h.actuators;
      }

  told-task :
      (t : ℕ) (x : Task) → Told ls q q.cells t 0 0 → t < most_tasks → task_ok q.frames q.cells q.sensors x ≡ true → op_storable x.op ≡ true
      → ((k : ℕ) → suc k ≡ t → (task_at q k).frame ≤ x.frame) → Told (ls ++ (task_line x ∷ [])) (with_task x q) q.cells (suc t) 0 0
  unfolding joined header_line
  told-task t x h m o s f =
      let w : ◌≡◌ {A = List (List ℕ)} (joined (λ k. task_line (get_or (set q.tasks q.task_count x) k unused_task) ∷ []) (suc t)) (joined (λ k. task_line (get_or q.tasks k unused_task) ∷ []) t ++ (task_line x ∷ [])) = subst (λ (n : ℕ). ◌≡◌ {A = List (List ℕ)} (joined (λ k. task_line (get_or (set q.tasks n x) k unused_task) ∷ []) (suc t)) (joined (λ k. task_line (get_or q.tasks k unused_task) ∷ []) t ++ (task_line x ∷ []))) (sym h.count) (tasks-line q.tasks t x (omega (arith, h.tasks.size))) in
      record {
        lines = rw (h.lines, w) (simp (append_assoc, append-nil));
        header = h.header;
        cells = h.cells;
        count = rw h.count (add-one t);
        tasks = rw h.count (tasks-more q.frames q.cells q.sensors q.tasks t x h.tasks m o s f);
        votes = h.votes;
        actuators = h.actuators;
      }

  -- the task that was added
  task-frame : (t : ℕ) (x : Task) → Told ls q q.cells t 0 0 → t < most_tasks → (task_at (with_task x q) t).frame ≡ x.frame
  task-frame t x h m = rw (h.count, get_or-set_same q.tasks t x unused_task (omega (arith, h.tasks.size)))

  told-vote :
      (t e n : ℕ) → Told ls q q.cells t e 0 → e ≤ n → n < most_frames * most_cells → vote_frame n < q.frames → vote_cell n < q.cells
      → Told (ls ++ (vote_line (vote_frame n) (vote_cell n) ∷ [])) (with_vote n q) q.cells t (suc n) 0
  unfolding joined header_line
  told-vote t e n h l m f c =
      record {
        lines = rw (h.lines, votes-line q.voted e n l (omega (arith, h.votes.size)) h.votes.rest) (simp (append_assoc, append-nil));
        header = h.header;
        cells = h.cells;
        count = h.count;
        tasks = h.tasks;
        votes = votes-more q.frames q.cells q.voted e n h.votes l m f c;
        actuators = h.actuators;
      }

  told-actuator :
      (t e a x : ℕ) → Told ls q q.cells t e a → a < most_actuators → x < q.cells
      → Told (ls ++ ((actuator_kind ∷ a ∷ x ∷ 0 ∷ 0 ∷ 0 ∷ []) ∷ [])) (with_actuator a x q) q.cells t e (suc a)
  unfolding header_line
  told-actuator t e a x h m l =
      record {
        lines = rw (h.lines, actuators-line q.actuator_cell a x (omega (arith, h.actuators.size))) (simp append_assoc);
        header = h.header;
        cells = h.cells;
        count = h.count;
        tasks = h.tasks;
        votes = h.votes;
        actuators = actuators-more q.cells q.actuator_cell a x h.actuators m l;
      }

-- ---- which line may come next

or_right : (a b : Bool) → (a || b) ≡ true → a ≡ false → b ≡ true
or_right a b e f = rw f at e

-- a line past the cells, and not the first there
past_first : (q : Plan) (j : ℕ) → q.cells < j → after_cells (header_line q) j ≡ false
unfolding after_cells header_line
past_first q j l = ne_eqb j q.cells (λ e. omega arith)

module _ (ls : List (List ℕ)) (q : Plan) (j : ℕ) (prev : List ℕ) where
  -- a cell's line
  cell-ready : {c t e a : ℕ} → Stage q j prev c t e a → Told ls q c t e a → j < q.cells → Told ls q j 0 0 0
  cell-ready (in_cells m k) h l = h
  cell-ready (in-tasks k s p) h l = absurd (omega arith)
  cell-ready (in-votes k s m p) h l = absurd (omega arith)
  cell-ready (in-actuators k s p) h l = absurd (omega arith)

  -- a task's line, of frame f
  record TaskReady (f : ℕ) : Type 0 where
    pub t : ℕ
    pub told : Told ls q q.cells t 0 0
    pub place : j ≡ q.cells + t
    pub order : (k : ℕ) → suc k ≡ t → (task_at q k).frame ≤ f

  task-ready :
      {c t e a : ℕ} (f : ℕ) → Stage q j prev c t e a → Told ls q c t e a → q.cells ≤ j
      → (after_cells (header_line q) j || (is_task (kind_of prev) && leb (second prev) f)) ≡ true → TaskReady f
  unfolding is_task
  task-ready f (in_cells m k) h l o =
      let e : j ≡ q.cells = omega arith in
      record { t = 0; told = rw e at h; place = omega arith; order = λ i z. absurd (omega arith) }
  task-ready f (in-tasks {k = k} z s p) h l o =
      let r = or_right _ _ o (past_first q j (omega arith)) in
      let g : second prev ≤ f = leb-true (second prev) f (and_right (is_task (kind_of prev)) _ r) in
      record { t = suc k; told = h; place = p; order = λ i z. let w : i ≡ k = omega arith in rw (w, s) g }
  task-ready f (in-votes k s m p) h l o =
      let r = or_right _ _ o (past_first q j p) in
      absurd (clash (rw k at (and_left (is_task (kind_of prev)) _ r)) refl)
  task-ready f (in-actuators k s p) h l o =
      let r = or_right _ _ o (past_first q j p) in
      absurd (clash (rw k at (and_left (is_task (kind_of prev)) _ r)) refl)

  -- a vote's line, of frame f and cell x
  record VoteReady (f x : ℕ) : Type 0 where
    pub t : ℕ
    pub e : ℕ
    pub told : Told ls q q.cells t e 0
    pub above : e ≤ vote_place f x

  later-place : (g y f x : ℕ) → y < most_cells → (ltb g f || (eqb g f && ltb y x)) ≡ true → vote_place g y < vote_place f x
  later-place g y f x l o =
      split (ltb g f) (λ t. omega (arith, ltb-true g f t))
      (λ t.
      let r = or_right (ltb g f) _ o t in
      omega (arith, eqb-true g f (and_left (eqb g f) _ r), ltb-true y x (and_right (eqb g f) _ r)))

  vote-ready :
      {c t e a : ℕ} (f x : ℕ) → Stage q j prev c t e a → Told ls q c t e a → q.cells ≤ j
      → (after_cells (header_line q) j || (is_task (kind_of prev) || (eqb (kind_of prev) vote_kind && (ltb (second prev) f || (eqb (second prev) f && ltb (third prev) x))))) ≡ true
      → VoteReady f x
  unfolding is_task
  vote-ready f x (in_cells m k) h l o =
      let e : j ≡ q.cells = omega arith in
      record { t = 0; e = 0; told = rw e at h; above = omega arith }
  vote-ready f x (in-tasks {k = k} z s p) h l o = record { t = suc k; e = 0; told = h; above = omega arith }
  vote-ready f x (in-votes {t = t} {n = n} k s m p) h l o =
      let r = rw k at (or_right _ _ o (past_first q j p)) in
      record { t = t; e = suc n; told = h; above = omega (arith, later-place (second prev) (third prev) f x m r) }
  vote-ready f x (in-actuators k s p) h l o = absurd (clash (rw k at (or_right _ _ o (past_first q j p))) refl)

  -- the line of actuator i
  record ActuatorReady (i : ℕ) : Type 0 where
    pub t : ℕ
    pub e : ℕ
    pub told : Told ls q q.cells t e i

  actuator-ready :
      {c t e a : ℕ} (i : ℕ) → Stage q j prev c t e a → Told ls q c t e a → q.cells ≤ j
      → cond (eqb i 0) (after_cells (header_line q) j || (is_task (kind_of prev) || eqb (kind_of prev) vote_kind)) (eqb (kind_of prev) actuator_kind && eqb (second prev + 1) i) ≡ true
      → ActuatorReady i
  unfolding is_task
  actuator-ready i (in_cells m k) h l =
      split (eqb i 0)
      (λ t o.
      let e : j ≡ q.cells = omega arith in
      let z : i ≡ 0 = eqb-true i 0 t in
      record { t = 0; e = 0; told = rw z (rw e at h) })
      (λ t o. let r = rw t at o in absurd (omega (arith, eqb-true (kind_of prev) actuator_kind (and_left _ _ r))))
  actuator-ready i (in-tasks {k = k} z s p) h l =
      split (eqb i 0)
      (λ t o. let w : i ≡ 0 = eqb-true i 0 t in record { t = suc k; e = 0; told = rw w h })
      (λ t o. let r = rw t at o in absurd (clash (rw (eqb-true (kind_of prev) actuator_kind (and_left _ _ r)) at z) refl))
  actuator-ready i (in-votes {t = v} {n = n} k s m p) h l =
      split (eqb i 0)
      (λ t o. let w : i ≡ 0 = eqb-true i 0 t in record { t = v; e = suc n; told = rw w h })
      (λ t o. let r = rw t at o in absurd (omega (arith, k, eqb-true (kind_of prev) actuator_kind (and_left _ _ r))))
  actuator-ready i (in-actuators {t = v} {e = e} {n = n} k s p) h l =
      split (eqb i 0)
      (λ t o. let r = rw t at o in absurd (clash (rw k at (or_right _ _ r (past_first q j p))) refl))
      (λ t o.
      let r = rw t at o in
      let w : i ≡ suc n = omega (arith, eqb-true (second prev + 1) i (and_right (eqb (kind_of prev) actuator_kind) _ r)) in
      record { t = v; e = e; told = rw w h })

-- ---- the next line, by its kind

record Read (h : List ℕ) (ls : List (List ℕ)) (q : Plan) (prev : List ℕ) (j : ℕ) : Type 0 where
  pub c : ℕ
  pub t : ℕ
  pub e : ℕ
  pub a : ℕ
  pub head : h ≡ header_line q
  pub told : Told ls q c t e a
  pub stage : Stage q j prev c t e a

module _ (ls : List (List ℕ)) (q : Plan) (j : ℕ) (prev : List ℕ) {c t e a : ℕ} (told : Told ls q c t e a) (stage : Stage q j prev c t e a) (f x y b d : ℕ) (lb : b < 2 ^ 64) (ld : d < 2 ^ 64) where
  abbrev After : ℕ → Type 0
  After k =
      in_order (header_line q) j prev (k ∷ f ∷ x ∷ y ∷ b ∷ d ∷ []) ≡ true → in_range (header_line q) (k ∷ f ∷ x ∷ y ∷ b ∷ d ∷ []) ≡ true
      → Read (header_line q) (ls ++ ((k ∷ f ∷ x ∷ y ∷ b ∷ d ∷ []) ∷ [])) (with_line (k ∷ f ∷ x ∷ y ∷ b ∷ d ∷ []) q) (k ∷ f ∷ x ∷ y ∷ b ∷ d ∷ []) (suc j)

  after-cell : After cell_kind
  unfolding in_order in_range header_line is_task
  after-cell o r =
      let l : j < q.cells = ltb-true j q.cells (and_left _ _ o) in
      let ef : f ≡ j = eqb-true f j (and_right (ltb j q.cells) _ o) in
      let ex : x ≡ 0 = search (and_left, and_right, eqb-true) in
      let ey : y ≡ 0 = search (and_left, and_right, eqb-true) in
      let ed : d ≡ 0 = search (and_left, and_right, eqb-true) in
      rw (ef, ex, ey, ed, with_cell_lem q j 0 0 b 0)
      (record {
        c = suc j;
        t = 0;
        e = 0;
        a = 0;
        head = refl;
        told = told-cell ls q j b (cell-ready ls q j prev stage told l) lb l;
        stage = in_cells l (omega arith);
      })

  after-task : (k : ℕ) → is_task k ≡ true → After k
  unfolding in_order in_range header_line task_in_order task_of
  after-task k u o r =
      let l : List ℕ = k ∷ f ∷ x ∷ y ∷ b ∷ d ∷ [] in
      let nc : eqb k cell_kind ≡ false = by_kind (λ n. eqb n cell_kind ≡ false) refl refl refl refl refl refl refl k u in
      let o1 = rw (nc, u) at o in
      let r1 = rw (nc, u) at r in
      let past : q.cells ≤ j = leb-true q.cells j (and_left _ _ o1) in
      let o2 = and_right (leb q.cells j) _ o1 in
      let few : j < q.cells + most_tasks = ltb-true _ _ (and_left _ _ o2) in
      let ready = task-ready ls q j prev f stage told past (and_right (ltb j (q.cells + most_tasks)) _ o2) in
      let ok : task_ok q.frames q.cells q.sensors (task_of l) ≡ true = and_left _ _ r1 in
      let same : task_line (task_of l) ≡ l = task-line q.frames q.cells q.sensors f x y b d lb ld k u ok (and_right (task_ok q.frames q.cells q.sensors (task_of l)) _ r1) in
      let small : ready.t < most_tasks = omega (arith, ready.place) in
      let next = told-task ls q ready.t (task_of l) ready.told small ok (op-storable f x y b d k u) ready.order in
      rw (with-task q f x y b d k u)
      (record {
        c = q.cells;
        t = suc ready.t;
        e = 0;
        a = 0;
        head = refl;
        told = rw same at next;
        stage = in-tasks {k = ready.t} u (task-frame ls q ready.t (task_of l) ready.told small) (omega (arith, ready.place));
      })

  after-vote : After vote_kind
  unfolding in_order in_range header_line vote_in_order smaller_vote is_task vote_line
  after-vote o r =
      let past : q.cells ≤ j = leb-true q.cells j (and_left _ _ o) in
      let ready = vote-ready ls q j prev f x stage told past (and_right (leb q.cells j) _ o) in
      let lf : f < q.frames = search (and_left, and_right, ltb-true) in
      let lx : x < q.cells = search (and_left, and_right, ltb-true) in
      let ey : y ≡ 0 = search (and_left, and_right, eqb-true) in
      let eb : b ≡ 0 = search (and_left, and_right, eqb-true) in
      let ed : d ≡ 0 = search (and_left, and_right, eqb-true) in
      let small : x < most_cells = omega (arith, header-cells q told.header) in
      let sf : vote_frame (vote_place f x) ≡ f = omega arith in
      let sc : vote_cell (vote_place f x) ≡ x = omega arith in
      let next =
      told-vote ls q ready.t ready.e (vote_place f x) ready.told ready.above (omega (arith, header-frames q told.header))
      (rw sf lf) (rw sc lx) in
      rw (ey, eb, ed, with-vote q f x 0 0 0)
      (record {
        c = q.cells;
        t = ready.t;
        e = suc (vote_place f x);
        a = 0;
        head = refl;
        told = rw (sf, sc) at next;
        stage = in-votes refl refl small (omega arith);
      })

  after-actuator : After actuator_kind
  unfolding in_order in_range header_line actuator_in_order is_task
  after-actuator o r =
      let past : q.cells ≤ j = leb-true q.cells j (and_left _ _ o) in
      let o1 = and_right (leb q.cells j) _ o in
      let lf : f < q.actuators = ltb-true f q.actuators (and_left _ _ o1) in
      let ready = actuator-ready ls q j prev f stage told past (and_right (ltb f q.actuators) _ o1) in
      let lx : x < q.cells = search (and_left, ltb-true) in
      let ey : y ≡ 0 = search (and_left, and_right, eqb-true) in
      let eb : b ≡ 0 = search (and_left, and_right, eqb-true) in
      let ed : d ≡ 0 = search (and_left, and_right, eqb-true) in
      let few : f < most_actuators = omega (arith, header-actuators q told.header) in
      rw (ey, eb, ed, with-actuator q f x 0 0 0)
      (record {
        c = q.cells;
        t = ready.t;
        e = ready.e;
        a = suc f;
        head = refl;
        told = told-actuator ls q ready.t ready.e f x ready.told few lx;
        stage = in-actuators refl refl (omega arith);
      })

  -- no other kind is in order
  after-other : (k : ℕ) → eqb k cell_kind ≡ false → is_task k ≡ false → eqb k vote_kind ≡ false → eqb k actuator_kind ≡ false → After k
  unfolding in_order
  after-other k nc nt nv na o r = absurd (clash (rw (nc, nt, nv, na) at o) (and-false-right (leb (fourth (header_line q)) j) refl))

  after-numbers : (k : ℕ) → After k
  after-numbers k =
      split (eqb k cell_kind) (λ i. rw (eqb-true k cell_kind i) after-cell)
      (λ nc.
      split (is_task k) (after-task k)
      (λ nt.
      split (eqb k vote_kind) (λ i. rw (eqb-true k vote_kind i) after-vote)
      (λ nv. split (eqb k actuator_kind) (λ i. rw (eqb-true k actuator_kind i) after-actuator) (after-other k nc nt nv))))

after_line :
    (h : List ℕ) (ls : List (List ℕ)) (q : Plan) (prev : List ℕ) (j : ℕ) (l : List ℕ) → Read h ls q prev j → Room widths l → in_order h j prev l ≡ true
    → in_range h l ≡ true → Read h (ls ++ (l ∷ [])) (with_line l q) l (suc j)
after_line h ls q prev j l r room =
    rw (r.head, six-numbers l room)
    (after-numbers ls q j prev r.told r.stage (second l) (third l) (fourth l) (fifth l) (sixth l) (room_bound widths l room 4) (room_bound widths l room 5) (kind_of l))

-- ---- all lines

module _ (z : Plan) (f x y b d : ℕ) (cells : Cells z.initial 0) (count : z.task_count ≡ 0) (tasks : Tasks x y b z.tasks 0) (votes : Votes x y z.voted 0) (actuators : Actuators y z.actuator_cell 0) where
  first-numbers :
      (k : ℕ) → (eqb k header_kind && header_ok f x y b d 0) ≡ true
      → Read (k ∷ f ∷ x ∷ y ∷ b ∷ d ∷ []) ((k ∷ f ∷ x ∷ y ∷ b ∷ d ∷ []) ∷ []) (with_line (k ∷ f ∷ x ∷ y ∷ b ∷ d ∷ []) z) (k ∷ f ∷ x ∷ y ∷ b ∷ d ∷ []) 0
  unfolding header_line joined
  first-numbers k o =
      let ok = and_right (eqb k header_kind) (header_ok f x y b d 0) o in
      let e : k ≡ 0 = eqb-true k header_kind (and_left (eqb k header_kind) (header_ok f x y b d 0) o) in
      rw (e, with-header z f x y b d)
      (record {
        c = 0;
        t = 0;
        e = 0;
        a = 0;
        head = refl;
        told = record { lines = refl; header = ok; cells = cells; count = count; tasks = tasks; votes = votes; actuators = actuators };
        stage = in_cells (omega arith) (omega arith);
      })

first_read : (l : List ℕ) → Room widths l → is_header l ≡ true → Read l (l ∷ []) (with_line l zero_plan) l 0
unfolding is_header
first_read l room =
    rw (six-numbers l room)
    (first-numbers zero_plan (second l) (third l) (fourth l) (fifth l) (sixth l) cells-none refl (tasks-none (third l) (fourth l) (fifth l))
    (votes-none (third l) (fourth l)) (actuators-none (fourth l)) (kind_of l))

lines-read :
    (s : List ℕ) (j : ℕ) → first_refusal s (suc j) ≡ None → Read (line_at s 0) (lines_from s (suc j)) (plan_to s (suc j)) (line_at s j) j
unfolding joined plan_to
lines-read s zero e =
    let o = first-line s 0 1 (omega arith) e in
    first_read (line_at s 0) (line-room s 0 (line_at s 0) (line-form s 0 o)) (line-header s o)
lines-read s (suc j) e =
    let o = first-line s (suc j) (suc (suc j)) (omega arith) e in
    let r = lines-read s j (first-before s (suc j) (suc (suc j)) (omega arith) e) in
    after_line (line_at s 0) (lines_from s (suc j)) (plan_to s (suc j)) (line_at s j) j (line_at s (suc j)) r
    (line-room s (suc j) (line_at s (suc j)) (line-form s (suc j) o)) (line-order s j o) (line-range s j o)

-- ---- the end

-- steps that do not fall
rises : (f : ℕ → ℕ) (n : ℕ) → ((k : ℕ) → suc k < n → f k ≤ f (suc k)) → (j k : ℕ) → j ≤ k → k < n → f j ≤ f k
rises f n step j zero l m = let e : j ≡ 0 = omega arith in rw e (omega arith)
rises f n step j (suc k) l m =
    split (eqb j (suc k))
    (λ t. rw (eqb-true j (suc k) t) (omega arith))
    (λ t. omega (arith, rises f n step j k (omega (arith, eqb-false j (suc k) t)) (omega arith), step k m))

-- all cells and actuators are told of
module _ (ls : List (List ℕ)) (q : Plan) (t e : ℕ) (h : Told ls q q.cells t e q.actuators) where
  told-lines : ls ≡ lines_of q
  told-lines =
      h.lines
      ∙ rw (← h.count, ← votes-rest q.voted e (most_frames * most_cells) h.votes.few h.votes.rest) (sym (lines-whole q))

  told-shape : Shape q
  unfolding header_ok task_ok voted_in
  told-shape =
      let header = h.header in
      let count = h.count in
      let step : (k : ℕ) → suc k < q.task_count → (task_at q k).frame ≤ (task_at q (suc k)).frame = λ k l. h.tasks.order k (omega arith) in
      record {
        nodes-low = search (and_left, and_right, leb-true) depth 8;
        nodes-high = search (and_left, and_right, leb-true) depth 8;
        frames-pos = search (and_left, and_right, leb-true) depth 8;
        frames-le = search (and_left, and_right, leb-true) depth 8;
        cells-pos = search (and_left, and_right, leb-true) depth 8;
        cells-le = search (and_left, and_right, leb-true) depth 8;
        sensors-pos = search (and_left, and_right, leb-true) depth 8;
        sensors-le = search (and_left, and_right, leb-true) depth 8;
        actuators-pos = search (and_left, and_right, leb-true) depth 8;
        actuators-le = search (and_left, and_right, leb-true) depth 8;
        tasks-le = omega (arith, h.tasks.few);
        initial-length = h.cells.size;
        tasks-length = h.tasks.size;
        voted-length = h.votes.size;
        actuator-length = h.actuators.size;
        initial-small = h.cells.small;
        initial-zero = h.cells.rest;
        frame = λ k l. let o = h.tasks.ok k (omega arith) in search (and_left, and_right, ltb-true);
        target = λ k l. let o = h.tasks.ok k (omega arith) in search (and_left, and_right, ltb-true);
        op = λ k l. let o = h.tasks.ok k (omega arith) in search (and_left, and_right);
        op-storable = λ k l. h.tasks.storable k (omega arith);
        order = step;
        ordered = rises (λ k. (task_at q k).frame) q.task_count step;
        unused = λ k l. h.tasks.rest k (omega arith);
        voted-frame = λ g c l v. omega (arith, h.votes.ok (vote_place g c) v);
        voted-cell = λ g c l v. omega (arith, h.votes.ok (vote_place g c) v);
        actuator = h.actuators.ok;
        actuator-zero = h.actuators.rest;
      }

record Whole (ls : List (List ℕ)) (q : Plan) : Type 0 where
  pub lines : ls ≡ lines_of q
  pub shape : Shape q

told-whole : (ls : List (List ℕ)) (q : Plan) (t e a : ℕ) → Told ls q q.cells t e a → a ≡ q.actuators → Whole ls q
told-whole ls q t e a h z =
    let w = rw z at h in
    record { lines = told-lines ls q t e w; shape = told-shape ls q t e w }

-- the last line is that of the last actuator
at_last :
    (ls : List (List ℕ)) (q : Plan) (j : ℕ) (prev : List ℕ) {c t e a : ℕ} → Stage q j prev c t e a → Told ls q c t e a → kind_of prev ≡ actuator_kind → second prev + 1 ≡ q.actuators
    → Whole ls q
unfolding is_task
at_last ls q j prev (in_cells m k) h z w = absurd (omega arith)
at_last ls q j prev (in-tasks k s p) h z w = absurd (clash (rw z at k) refl)
at_last ls q j prev (in-votes k s m p) h z w = absurd (omega (arith, k, z))
at_last ls q j prev (in-actuators {t = t} {e = e} {n = n} k s p) h z w = told-whole ls q t e (suc n) h (omega arith)

read_whole : (h : List ℕ) (ls : List (List ℕ)) (q : Plan) (prev : List ℕ) (j : ℕ) → Read h ls q prev j → is_last h prev ≡ true → Whole ls q
unfolding is_last header_line
read_whole h ls q prev j r o =
    let o1 = rw r.head at o in
    at_last ls q j prev r.stage r.told (eqb-true (kind_of prev) actuator_kind (and_left _ _ o1))
    (eqb-true (second prev + 1) q.actuators (and_right (eqb (kind_of prev) actuator_kind) _ o1))

module _ (s : List ℕ) (ok : length_ok (length s) ≡ true) (none-refused : lines_refusal s ≡ None) where
  text-whole : Whole (lines_from s (line_count s)) (plan_of s)
  unfolding plan_of
  text-whole =
      let e : line_count s ≡ suc (line_count s - 1) = omega (arith, some-line (length s) ok) in
      let first : first_refusal s (suc (line_count s - 1)) ≡ None = rw (← e) (lines-first s none-refused) in
      rw e (read_whole (line_at s 0) (lines_from s (suc (line_count s - 1))) (plan_to s (suc (line_count s - 1))) (line_at s (line_count s - 1)) (line_count s - 1) (lines-read s (line_count s - 1) first) (lines-last s none-refused))

  -- the record that a text means is well formed
  pub text-well_formed : well_formed (plan_of s) ≡ true
  text-well_formed = well_formed-of (plan_of s) text-whole.shape

  -- and its text is the text
  pub text-of-plan : plan_text (plan_of s) ≡ s
  unfolding plan_text
  text-of-plan =
      ap written (sym text-whole.lines)
      ∙ text-written s ok (λ k l. line-form s k (first-line s k (line_count s) l (lines-first s none-refused)))
