-- What the tests `well_formed` and `accepted` say of a record, as facts.
use mathlib.Core.Path.{◌≡◌, refl, ap}
use mathlib.Core.Bool.{Bool, true, false, ◌&&◌, ◌||◌}
use mathlib.Core.List.{List, [], ◌∷◌}
use Prim.Native.Nat.{ℕ, zero, suc, ◌+◌, ◌-◌, ◌*◌, ◌^◌, ◌≤◌, ◌<◌}
use native.Mathlib.Omega.{arith}
use native.Mathlib.Nat.{mul-le-mul}
use lib.Dec.{eqb, ltb, lit<}
use lib.ListN.{length, get_or, get_or-eq_default}
use borrow.Author.Tests.{ltb-true, ltb-false, leb-true, eqb-true, eqb-false, lt-ltb, le-ltb, le-leb, eq-eqb, ne_eqb, not-true, not-false}
use Rattle.array.specs.Index.{all_below, all_in}
use Rattle.array.proofs.TestLaws.{split, clash, and_left, and_right, and_both}
use Rattle.array.proofs.IndexLaws.{all_below-at, all_below-all, all_in-at, all_in-all}
use Rattle.plan.specs.declared.Op.{Op}
use Rattle.plan.specs.declared.Op.TheVariants.{Take, Sum, Diff, Scale, Limit, Wind, Cam}
use Rattle.plan.specs.declared.Task.{Task}
use Rattle.plan.specs.declared.Plan.{Plan}
use Rattle.plan.specs.Limits.{least_nodes, most_nodes, most_frames, most_cells, most_sensors, most_actuators, most_tasks}
use Rattle.plan.specs.Known.{reads, period}
use Rattle.plan.specs.Tables.{unused_task, task_at, voted_in}
use Rattle.plan.specs.Accepted.{header_ok, constants_ok, op_ok, task_ok, is_zero_take, is_unused, not_falling, task_entry, initial_entry, vote_entry, actuator_entry, entries_ok, op_storable, storable, well_formed, accepted}

-- what `well_formed` says, and no more: the laws `shape_of` and `well_formed-of`
pub record Shape (p : Plan) : Type 0 where
  -- the header
  pub nodes-low : least_nodes ≤ p.nodes
  pub nodes-high : p.nodes ≤ most_nodes
  pub frames-pos : 0 < p.frames
  pub frames-le : p.frames ≤ most_frames
  pub cells-pos : 0 < p.cells
  pub cells-le : p.cells ≤ most_cells
  pub sensors-pos : 0 < p.sensors
  pub sensors-le : p.sensors ≤ most_sensors
  pub actuators-pos : 0 < p.actuators
  pub actuators-le : p.actuators ≤ most_actuators
  pub tasks-le : p.task_count ≤ most_tasks
  -- the arrays' sizes
  pub initial-length : length p.initial ≡ most_cells
  pub tasks-length : length p.tasks ≡ most_tasks
  pub voted-length : length p.voted ≡ most_frames * most_cells
  pub actuator-length : length p.actuator_cell ≡ most_actuators
  -- the initial values
  pub initial-small : (c : ℕ) → get_or p.initial c 0 < 2 ^ 64
  pub initial-zero : (c : ℕ) → p.cells ≤ c → get_or p.initial c 0 ≡ 0
  -- the tasks
  pub frame : (k : ℕ) → k < p.task_count → (task_at p k).frame < p.frames
  pub target : (k : ℕ) → k < p.task_count → (task_at p k).target < p.cells
  pub op : (k : ℕ) → k < p.task_count → op_ok p.cells p.sensors (task_at p k).target (task_at p k).op ≡ true
  pub op-storable : (k : ℕ) → k < p.task_count → op_storable (task_at p k).op ≡ true
  pub order : (k : ℕ) → suc k < p.task_count → (task_at p k).frame ≤ (task_at p (suc k)).frame
  pub ordered : (j k : ℕ) → j ≤ k → k < p.task_count → (task_at p j).frame ≤ (task_at p k).frame
  pub unused : (k : ℕ) → p.task_count ≤ k → task_at p k ≡ unused_task
  -- the votes
  pub voted-frame : (g c : ℕ) → c < most_cells → voted_in p g c ≡ true → g < p.frames
  pub voted-cell : (g c : ℕ) → c < most_cells → voted_in p g c ≡ true → c < p.cells
  -- the actuators
  pub actuator : (i : ℕ) → i < p.actuators → get_or p.actuator_cell i 0 < p.cells
  pub actuator-zero : (i : ℕ) → p.actuators ≤ i → get_or p.actuator_cell i 0 ≡ 0

-- ---- from the test

-- a test that is one of several joined by `&&`, and what it says
ruleset said = (and_left, and_right, ltb-true, leb-true, eqb-true)

zero_take-is : (o : Op) → is_zero_take o ≡ true → o ≡ Take 0
unfolding is_zero_take
zero_take-is (Take s) e = ap Take (eqb-true s 0 e)
zero_take-is (Sum a b) e = absurd (clash e refl)
zero_take-is (Diff a b) e = absurd (clash e refl)
zero_take-is (Scale a factor) e = absurd (clash e refl)
zero_take-is (Limit a low high) e = absurd (clash e refl)
zero_take-is (Wind a law) e = absurd (clash e refl)
zero_take-is (Cam a) e = absurd (clash e refl)

unused-is : (t : Task) → is_unused t ≡ true → t ≡ unused_task
unfolding is_unused
unused-is t e =
    let f : t.frame ≡ 0 = search said in
    let g : t.target ≡ 0 = search said in
    let o : t.op ≡ Take 0 = zero_take-is t.op (search said) in
    λ i. record { frame = f i; target = g i; op = o i }

or_right : {a b : Bool} → (a || b) ≡ true → a ≡ false → b ≡ true
or_right e f = rw f at e

-- an entry past the end is the default
past : {A : Type 0} (l : List A) (d : A) (n i : ℕ) → length l ≡ n → (i < n → get_or l i d ≡ d) → get_or l i d ≡ d
past l d n i e f =
    split (ltb i n) (λ t. f (ltb-true i n t)) (λ t. get_or-eq_default l d {n = i} (omega (arith, ltb-false i n t)))

-- steps that do not fall
rises : (f : ℕ → ℕ) (n : ℕ) → ((k : ℕ) → suc k < n → f k ≤ f (suc k)) → (j k : ℕ) → j ≤ k → k < n → f j ≤ f k
rises f n step j zero l m = let e : j ≡ 0 = omega arith in rw e (omega arith)
rises f n step j (suc k) l m =
    split (eqb j (suc k))
    (λ t. rw (eqb-true j (suc k) t) (omega arith))
    (λ t. omega (arith, rises f n step j k (omega (arith, eqb-false j (suc k) t)) (omega arith), step k m))

module _ (p : Plan) (w : well_formed p ≡ true) where
  task-entry : (k : ℕ) → k < most_tasks → task_entry p k ≡ true
  unfolding well_formed entries_ok
  task-entry k l = all_below-at (task_entry p) most_tasks k l (search said depth 8)

  initial-entry : (c : ℕ) → c < most_cells → initial_entry p c ≡ true
  unfolding well_formed entries_ok
  initial-entry c l = all_below-at (initial_entry p) most_cells c l (search said depth 8)

  vote-entry : (g c : ℕ) → g < most_frames → c < most_cells → vote_entry p g c ≡ true
  unfolding well_formed entries_ok
  vote-entry g c l m =
      all_below-at (vote_entry p g) most_cells c m
      (all_below-at (λ x. all_below (vote_entry p x) most_cells) most_frames g l (search said depth 8))

  actuator-entry : (i : ℕ) → i < most_actuators → actuator_entry p i ≡ true
  unfolding well_formed entries_ok
  actuator-entry i l = all_below-at (actuator_entry p) most_actuators i l (search said depth 8)

  task : (k : ℕ) → k < most_tasks → k < p.task_count → (task_ok p.frames p.cells p.sensors (task_at p k) && not_falling p k) ≡ true
  unfolding task_entry
  task k m l = rw (lt-ltb k p.task_count l) at (task-entry k m)

  vote : length p.voted ≡ most_frames * most_cells → (g c : ℕ) → c < most_cells → voted_in p g c ≡ true → (ltb g p.frames && ltb c p.cells) ≡ true
  unfolding vote_entry voted_in
  vote e g c l v =
      split (ltb g most_frames) (λ t. rw v at (vote-entry g c (ltb-true _ _ t) l))
      (λ t. absurd (clash v (get_or-eq_default p.voted false {n = most_cells * g + c} (omega (arith, ltb-false g most_frames t)))))

  next : (k : ℕ) → suc k < most_tasks → suc k < p.task_count → (task_at p k).frame ≤ (task_at p (suc k)).frame
  unfolding not_falling
  next k m l =
      let e : suc k - 1 ≡ k = omega arith in
      let t = task (suc k) m l in
      let h : not_falling p (suc k) ≡ true = search said in
      leb-true _ _ (rw e at (or_right h (ne_eqb (suc k) 0 (λ z. omega arith))))

pub shape_of : (p : Plan) → well_formed p ≡ true → Shape p
unfolding well_formed header_ok storable task_entry task_ok initial_entry actuator_entry
shape_of p w =
    let few : p.task_count ≤ most_tasks = search said depth 9 in
    let actuators : p.actuators ≤ most_actuators = search said depth 9 in
    let initial-size : length p.initial ≡ most_cells = search said depth 9 in
    let tasks-size : length p.tasks ≡ most_tasks = search said depth 9 in
    let voted-size : length p.voted ≡ most_frames * most_cells = search said depth 9 in
    let actuator-size : length p.actuator_cell ≡ most_actuators = search said depth 9 in
    let step : (k : ℕ) → suc k < p.task_count → (task_at p k).frame ≤ (task_at p (suc k)).frame = λ k l. next p w k (omega arith) l in
    record {
      nodes-low = search said depth 9;
      nodes-high = search said depth 9;
      frames-pos = search said depth 9;
      frames-le = search said depth 9;
      cells-pos = search said depth 9;
      cells-le = search said depth 9;
      sensors-pos = search said depth 9;
      sensors-le = search said depth 9;
      actuators-pos = search said depth 9;
      actuators-le = actuators;
      tasks-le = few;
      initial-length = initial-size;
      tasks-length = tasks-size;
      voted-length = voted-size;
      actuator-length = actuator-size;
      initial-small = λ c.
          split (ltb c most_cells)
          (λ t. ltb-true _ _ (all_below-at (λ x. ltb (get_or p.initial x 0) (2 ^ 64)) most_cells c (ltb-true _ _ t) (search said depth 8)))
          (λ t. rw (get_or-eq_default p.initial 0 {n = c} (omega (arith, ltb-false c most_cells t))) (lit< tt));
      initial-zero = λ c l. past p.initial 0 most_cells c initial-size (λ m. eqb-true _ _ (or_right (initial-entry p w c m) (le-ltb _ _ l)));
      frame = λ k l. let t = task p w k (omega arith) l in search said;
      target = λ k l. let t = task p w k (omega arith) l in search said;
      op = λ k l. let t = task p w k (omega arith) l in search said;
      op-storable = λ k l.
          all_below-at (λ j. op_storable (task_at p j).op) most_tasks k (omega arith) (search said depth 8);
      order = step;
      ordered = rises (λ k. (task_at p k).frame) p.task_count step;
      unused = λ k l.
          past p.tasks unused_task most_tasks k tasks-size
          (λ m. unused-is (task_at p k) (rw (le-ltb k p.task_count l) at (task-entry p w k m)));
      voted-frame = λ g c l v. let t = vote p w voted-size g c l v in search said;
      voted-cell = λ g c l v. let t = vote p w voted-size g c l v in search said;
      actuator = λ i l. ltb-true _ _ (rw (lt-ltb i p.actuators l) at (actuator-entry p w i (omega arith)));
      actuator-zero = λ i l.
          past p.actuator_cell 0 most_actuators i actuator-size
          (λ m. eqb-true _ _ (rw (le-ltb i p.actuators l) at (actuator-entry p w i m)));
    }

-- ---- and back

or-of : (a b : Bool) → (a ≡ false → b ≡ true) → (a || b) ≡ true
or-of true b f = refl
or-of false b f = f refl

module _ (p : Plan) (s : Shape p) where
  header-holds : header_ok p.nodes p.frames p.cells p.sensors p.actuators p.task_count ≡ true
  unfolding header_ok
  header-holds = search (and_both, le-leb) depth 8

  pub op-always : (k : ℕ) → op_storable (task_at p k).op ≡ true
  unfolding op_storable
  op-always k = split (ltb k p.task_count) (λ t. s.op-storable k (ltb-true _ _ t)) (λ t. rw (s.unused k (ltb-false _ _ t)))

  storable-holds : storable p ≡ true
  unfolding storable
  storable-holds =
      let i = all_below-all (λ c. ltb (get_or p.initial c 0) (2 ^ 64)) most_cells (λ c l. lt-ltb _ _ (s.initial-small c)) in
      let o = all_below-all (λ k. op_storable (task_at p k).op) most_tasks (λ k l. op-always k) in
      search (and_both, eq-eqb) depth 8

  not-falling : (k : ℕ) → k < p.task_count → not_falling p k ≡ true
  unfolding not_falling
  not-falling zero l = refl
  not-falling (suc k) l = let e : suc k - 1 ≡ k = omega arith in rw e (or-of (eqb (suc k) 0) _ (λ t. le-leb _ _ (s.order k l)))

  task-holds : (k : ℕ) → task_entry p k ≡ true
  unfolding task_entry task_ok is_unused is_zero_take
  task-holds k =
      split (ltb k p.task_count)
      (λ t.
      let l = ltb-true _ _ t in
      rw t (and_both (and_both (and_both (lt-ltb _ _ (s.frame k l)) (lt-ltb _ _ (s.target k l))) (s.op k l)) (not-falling k l)))
      (λ t. rw (t, s.unused k (ltb-false _ _ t)))

  initial-holds : (c : ℕ) → initial_entry p c ≡ true
  unfolding initial_entry
  initial-holds c = or-of _ _ (λ t. eq-eqb _ _ (s.initial-zero c (ltb-false _ _ t)))

  vote-holds : (g c : ℕ) → c < most_cells → vote_entry p g c ≡ true
  unfolding vote_entry
  vote-holds g c l =
      or-of _ _ (λ t. let v = not-false _ t in and_both (lt-ltb _ _ (s.voted-frame g c l v)) (lt-ltb _ _ (s.voted-cell g c l v)))

  actuator-holds : (i : ℕ) → actuator_entry p i ≡ true
  unfolding actuator_entry
  actuator-holds i =
      split (ltb i p.actuators)
      (λ t. rw t (lt-ltb _ _ (s.actuator i (ltb-true _ _ t))))
      (λ t. rw t (eq-eqb _ _ (s.actuator-zero i (ltb-false _ _ t))))

  pub well_formed-of : well_formed p ≡ true
  unfolding well_formed entries_ok
  well_formed-of =
      let t = all_below-all (task_entry p) most_tasks (λ k l. task-holds k) in
      let i = all_below-all (initial_entry p) most_cells (λ c l. initial-holds c) in
      let v = all_below-all (λ g. all_below (vote_entry p g) most_cells) most_frames (λ g l. all_below-all (vote_entry p g) most_cells (vote-holds g)) in
      let a = all_below-all (actuator_entry p) most_actuators (λ i l. actuator-holds i) in
      search (and_both, storable-holds, header-holds) depth 8

-- ---- a task that passes: its cells and its sensor are in range

all_in-wider : (n k : ℕ) (l : List ℕ) → n ≤ k → all_in (λ c. ltb c n) l ≡ true → all_in (λ c. ltb c k) l ≡ true
all_in-wider n k l w e =
    all_in-all (λ c. ltb c k) l (λ x i. lt-ltb x k (omega (arith, ltb-true x n (all_in-at (λ c. ltb c n) l e i))))

op_ok-wider : (n k m t : ℕ) (o : Op) → n ≤ k → op_ok n m t o ≡ true → op_ok k m t o ≡ true
unfolding op_ok
op_ok-wider n k m t o w h = and_both (all_in-wider n k (reads o t) w (and_left _ _ h)) (and_right (all_in (λ c. ltb c n) (reads o t)) _ h)

-- for the code, which has all cells of a memory
pub op-in : (p : Plan) (s : Shape p) (k : ℕ) {n : ℕ} → k < p.task_count → n ≡ p.sensors → op_ok most_cells n (task_at p k).target (task_at p k).op ≡ true
op-in p s k l e = rw e (op_ok-wider p.cells most_cells p.sensors (task_at p k).target (task_at p k).op s.cells-le (s.op k l))

module _ (n m t : ℕ) (o : Op) (h : op_ok n m t o ≡ true) where
  pub take_in : {s : ℕ} → o ≡ Take s → s < m
  unfolding op_ok constants_ok
  take_in e = let k = rw e at h in search said

  -- the cells that it reads, of a list with n entries
  module _ {l : ℕ} (w : l ≡ n) where
    pub cell_in : {a : ℕ} → reads o t ≡ a ∷ [] → a < l
    unfolding op_ok all_in
    cell_in e = let k = rw e at h in rw w (search said)

    pub cells_in : {a b : ℕ} → reads o t ≡ a ∷ b ∷ [] → (a < l) × (b < l)
    unfolding op_ok all_in
    cells_in e = let k = rw e at h in rw w (search said, search said)

-- ---- an accepted record

pub shape-of-accepted : (p : Plan) → accepted p ≡ true → Shape p
unfolding accepted
shape-of-accepted p a = shape_of p (and_left (well_formed p) _ a)

pub period-of-accepted : (p : Plan) → accepted p ≡ true → 0 < period p
unfolding accepted
period-of-accepted p a = omega (arith, eqb-false (period p) 0 (not-true _ (and_right (well_formed p) _ a)))

-- the frames of a plan, each with its cells, are few
pub bound-small : (p : Plan) → Shape p → p.frames * p.cells ≤ 512
bound-small p s = mul-le-mul s.frames-le s.cells-le
