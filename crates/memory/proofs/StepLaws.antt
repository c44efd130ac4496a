-- Laws for the proofs of `step`: one law for a loop's start, and one for each way through its body.
use Rattle.std.specs.Prelude.{Option, unwrap_or}
use mathlib.Core.Path.{◌≡◌, refl, sym, ap, ◌∙◌, subst}
use mathlib.Core.Bool.{Bool, true, false, cond}
use mathlib.Core.List.{List, [], ◌++◌, append_assoc, append-nil}
use Prim.Native.Nat.{ℕ, zero, suc, ◌+◌, ◌-◌, ◌*◌, ◌%◌, ◌≤◌, ◌<◌, min}
use native.Mathlib.Omega.{arith}
use native.Mathlib.Nat.{mul-le-mul_right, suc-mul}
use native.Mathlib.Numerals.{add-one}
use lib.Dec.{eqb}
use lib.ListN.{length, get_or, set, take, drop, length-append}
use lib.Seq.{take_at, take_all, length-take-le}
use borrow.Author.Tests.{eqb-true, eqb-false, eq-eqb, ne_eqb}
use Rattle.array.proofs.TestLaws.{split}
use Rattle.array.specs.Index.{fill, joined, lesser, least}
use Rattle.array.specs.Word.{bytes}
use Rattle.array.proofs.LoopLaws.{stored_next}
use Rattle.array.proofs.LeastLaws.{least-taken, least-left}
use Rattle.array.proofs.PlacesLaws.{fill-out, fill-kept, joined-none, joined-more}
use Rattle.array.proofs.WordLaws.{bytes-length}
use Rattle.plan.specs.declared.Plan.{Plan}
use Rattle.plan.specs.Limits.{most_cells, most_actuators}
use Rattle.plan.specs.Accepted.{accepted}
use Rattle.plan.specs.Tables.{task_at, voted_in}
use Rattle.plan.proofs.AcceptedLaws.{Shape, shape-of-accepted}
use Rattle.memory.specs.declared.Memory.{Memory}
use Rattle.memory.specs.Size.{counter_size, pattern_size, cell_at, bin_size}
use Rattle.task.specs.Task.{op_value, run_task, run_tasks}
use Rattle.ballot.specs.Majority.{backing, majority, agreement, or_own}
use Rattle.ballot.specs.Code.{packed, Packs}
use Rattle.memory.specs.Node.{computed, before, sent_cell, message_of, counter_from, cell_from, counter_in, cell_in, voted_counter, voted_cell, voted, vote_agreement, setpoint}
use Rattle.ballot.proofs.PackedLaws.{packs-majority, packs-agreement}
use Rattle.task.proofs.TaskLaws.{run_task-elsewhere}

-- ---- the tasks of a frame

module _ (p : Plan) (g : ℕ) (sensors cells : List ℕ) where
  pub tasks-none : cells ≡ run_tasks p g sensors 0 cells
  unfolding run_tasks
  tasks-none = refl

  pub tasks-hit :
      {now next : List ℕ} (k : ℕ) →
      (task_at p k).frame ≡ g →
      now ≡ run_tasks p g sensors k cells →
      next ≡ set now (task_at p k).target (op_value (task_at p k).op (task_at p k).target sensors now) →
      next ≡ run_tasks p g sensors (k + 1) cells
  unfolding run_tasks run_task
  tasks-hit {now} k e h n = rw (add-one k, eq-eqb (task_at p k).frame g e, ← h) n

  pub tasks-miss :
      {now : List ℕ} (k : ℕ) →
      ((task_at p k).frame ≡ g → ⊥) →
      now ≡ run_tasks p g sensors k cells →
      now ≡ run_tasks p g sensors (k + 1) cells
  unfolding run_tasks run_task
  tasks-miss k e h = rw (add-one k, ne_eqb (task_at p k).frame g e) h

  -- tasks from k on that are not of the frame change nothing
  pub tasks-others : (k n : ℕ) → k ≤ n → ((i : ℕ) → k ≤ i → i < n → (task_at p i).frame ≡ g → ⊥) → run_tasks p g sensors k cells ≡ run_tasks p g sensors n cells
  unfolding run_tasks
  tasks-others k zero l f = let z : k ≡ 0 = omega arith in rw z
  tasks-others k (suc n) l f =
      split (eqb k (suc n))
      (λ t. rw (eqb-true k (suc n) t))
      (λ t.
      tasks-others k n (omega (arith, eqb-false k (suc n) t)) (λ i a b. f i a (omega arith))
      ∙ sym (run_task-elsewhere g sensors (task_at p n) (run_tasks p g sensors n cells) (f n (omega (arith, eqb-false k (suc n) t)) (omega arith))))

  pub tasks-end : {now : List ℕ} {k : ℕ} → now ≡ run_tasks p g sensors k cells → k ≡ p.task_count → now ≡ run_tasks p g sensors p.task_count cells
  tasks-end h e = h ∙ rw e

  -- the tasks stand by frame: where one is of a later frame, all of the frame have run
  pub tasks-later :
      {now : List ℕ} {k : ℕ} →
      Shape p →
      now ≡ run_tasks p g sensors k cells →
      k < p.task_count →
      g < (task_at p k).frame →
      now ≡ run_tasks p g sensors p.task_count cells
  tasks-later {now} {k} s h l f = h ∙ tasks-others k p.task_count (omega arith) (λ i m n e. absurd (omega (arith, s.ordered k i m n)))

pub computed-is :
    (p : Plan) (sensors : List ℕ) (m : Memory) {cells : List ℕ} →
    cells ≡ run_tasks p (m.counter % p.frames) sensors p.task_count m.cells →
    ◌≡◌ {A = Memory} (record { counter = (m.counter % p.frames + 1) % p.frames; cells = cells }) (computed p sensors m)
unfolding computed
computed-is p sensors m e = λ i. record { counter = (m.counter % p.frames + 1) % p.frames; cells = e i }

-- ---- a message

-- the front of a buffer, one word after it is written
written : (out out' w : List ℕ) (at n : ℕ) → length w ≡ n → at + n ≤ length out → out' ≡ take at out ++ (w ++ drop (at + n) out) → take (at + n) out' ≡ take at out ++ w
written out out' w at n e l o =
    rw (o, ← append_assoc (take at out) w (drop (at + n) out))
    (take_at (take at out ++ w) _ (at + n) (length-append (take at out) w ∙ rw (length-take-le at out (omega arith), e)))

module _ (out out' : List ℕ) where
  pub sent-none :
      (f : ℕ → ℕ) (x : ℕ) →
      0 + counter_size ≤ length out →
      out' ≡ take 0 out ++ (bytes counter_size x ++ drop (0 + counter_size) out) →
      take (cell_at 0) out' ≡ bytes counter_size x ++ joined (λ c. bytes pattern_size (f c)) 0
  sent-none f x l o = written out out' (bytes counter_size x) 0 counter_size (bytes-length counter_size x) l o ∙ rw (joined-none, append-nil)

  pub sent-more :
      (f : ℕ → ℕ) (x c y : ℕ) →
      cell_at c + pattern_size ≤ length out →
      take (cell_at c) out ≡ bytes counter_size x ++ joined (λ d. bytes pattern_size (f d)) c →
      y ≡ f c →
      out' ≡ take (cell_at c) out ++ (bytes pattern_size y ++ drop (cell_at c + pattern_size) out) →
      take (cell_at (c + 1)) out' ≡ bytes counter_size x ++ joined (λ d. bytes pattern_size (f d)) (c + 1)
  sent-more f x c y l h e o =
      let k : cell_at (c + 1) ≡ cell_at c + pattern_size = omega arith in
      rw k
      (written out out' (bytes pattern_size y) (cell_at c) pattern_size (bytes-length pattern_size y) l o
      ∙ rw (h, e, joined-more, append_assoc (bytes counter_size x) (joined (λ d. bytes pattern_size (f d)) c) (bytes pattern_size (f c))))

pub sent-all :
    (f : ℕ → ℕ) (x c n : ℕ) (out : List ℕ) →
    c ≡ n →
    length out ≡ cell_at n →
    take (cell_at c) out ≡ bytes counter_size x ++ joined (λ d. bytes pattern_size (f d)) c →
    out ≡ bytes counter_size x ++ joined (λ d. bytes pattern_size (f d)) n
sent-all f x c n out e l h = sym (take_all (cell_at n) out (omega arith)) ∙ subst (λ (k : ℕ). take (cell_at k) out ≡ bytes counter_size x ++ joined (λ d. bytes pattern_size (f d)) k) e h

module _ (p : Plan) (m : Memory) where
  pub sent-cell :
      {g x : ℕ} (c : ℕ) →
      g ≡ (m.counter + p.frames - 1) % p.frames →
      x ≡ cond (get_or p.voted (most_cells * g + c) false) (get_or m.cells c 0) 0 →
      x ≡ sent_cell p m c
  unfolding sent_cell before voted_in
  sent-cell c h e = e ∙ rw h

-- ---- bins

-- bin j of n ends in the mailbox
pub bin-ends : {n len : ℕ} (j size : ℕ) → j < n → n * size ≤ len → j * size + size ≤ len
bin-ends {n} {len} j size l e =
    let h : suc j * size ≤ n * size = mul-le-mul_right size l in
    omega (arith, suc-mul j size)

-- ---- the vote

-- what cell c becomes where the frame voted in is g
unfoldable pub cell_after : Plan → List ℕ → List ℕ → ℕ → ℕ → ℕ
cell_after p cells box g c =
    cond (voted_in p g c) (unwrap_or (majority (cell_in p box c) p.nodes) (get_or cells c 0)) (get_or cells c 0)

-- the values read are what the bins say
module _ (p : Plan) (box : List ℕ) where
  pub counter-voted :
      (m : Memory) {r n : ℕ} {o : Option ℕ} (values : List ℕ) →
      Packs (λ j. counter_from box (j * bin_size p)) p.nodes values n →
      o ≡ majority (packed values n) p.nodes →
      r ≡ or_own p.frames m.counter o →
      r ≡ voted_counter p m box
  unfolding voted_counter counter_in
  counter-voted m values t h k = k ∙ rw (h, packs-majority _ p.nodes t)

  pub cell-voted :
      {now : List ℕ} {r n : ℕ} {o : Option ℕ} (cells : List ℕ) (g c : ℕ) (values : List ℕ) →
      now ≡ fill (cell_after p cells box g) c cells →
      get_or p.voted (most_cells * g + c) false ≡ true →
      Packs (λ j. cell_from box c (j * bin_size p)) p.nodes values n →
      o ≡ majority (packed values n) p.nodes →
      r ≡ unwrap_or o (get_or now c 0) →
      set now c r ≡ fill (cell_after p cells box g) (c + 1) cells
  unfolding cell_after cell_in voted_in
  cell-voted cells g c values n v t h k =
      let f : ℕ → ℕ = cell_after p cells box g in
      stored_next f c cells n (k ∙ rw (v, h, packs-majority _ p.nodes t, n, fill-out f c cells c 0 (omega arith)))

-- the agreement on the cells: what is counted for a cell is its agreement, and the least so far
abbrev pub agreed_to : Plan → List ℕ → ℕ → ℕ → ℕ → ℕ
agreed_to p box g first c = lesser first (least (voted_in p g) (λ d. agreement (cell_in p box d) p.nodes) c)

module _ (p : Plan) (box : List ℕ) where
  pub counter-agreed :
      {r n : ℕ} {o : Option ℕ} (values : List ℕ) →
      Packs (λ j. counter_from box (j * bin_size p)) p.nodes values n →
      o ≡ majority (packed values n) p.nodes →
      r ≡ backing (packed values n) n o →
      r ≡ agreement (counter_in p box) p.nodes
  unfolding counter_in
  counter-agreed values t h k = packs-agreement _ p.nodes t h k

  module _ (g first c : ℕ) {now : ℕ} (h : now ≡ agreed_to p box g first c) where
    pub cell-agreed :
        {r x n : ℕ} {o : Option ℕ} (values : List ℕ) →
        get_or p.voted (most_cells * g + c) false ≡ true →
        Packs (λ j. cell_from box c (j * bin_size p)) p.nodes values n →
        o ≡ majority (packed values n) p.nodes →
        x ≡ backing (packed values n) n o →
        r ≡ min now x →
        r ≡ agreed_to p box g first (c + 1)
    unfolding cell_in voted_in
    cell-agreed values v t o k e = e ∙ least-taken (voted_in p g) _ first c h v (packs-agreement _ p.nodes t o k)

    pub cell-unvoted : get_or p.voted (most_cells * g + c) false ≡ false → now ≡ agreed_to p box g first (c + 1)
    unfolding voted_in
    cell-unvoted v = least-left (voted_in p g) _ first c h v

  pub vote-agreed :
      (m : Memory) {counter g first r : ℕ} →
      counter ≡ voted_counter p m box →
      g ≡ (counter + p.frames - 1) % p.frames →
      first ≡ agreement (counter_in p box) p.nodes →
      r ≡ agreed_to p box g first p.cells →
      r ≡ vote_agreement p m box
  unfolding vote_agreement before
  vote-agreed m e h a k = k ∙ rw (h, e, a)

pub cell-kept :
    {now : List ℕ} (p : Plan) (cells box : List ℕ) (g c : ℕ) →
    now ≡ fill (cell_after p cells box g) c cells →
    get_or p.voted (most_cells * g + c) false ≡ false →
    now ≡ fill (cell_after p cells box g) (c + 1) cells
unfolding cell_after voted_in
cell-kept p cells box g c n v = n ∙ fill-kept (cell_after p cells box g) c cells 0 (rw v)

pub memory-voted :
    (p : Plan) (m : Memory) (box : List ℕ) {counter g : ℕ} {cells : List ℕ} →
    counter ≡ voted_counter p m box →
    g ≡ (counter + p.frames - 1) % p.frames →
    cells ≡ fill (cell_after p m.cells box g) p.cells m.cells →
    ◌≡◌ {A = Memory} (record { counter = counter; cells = cells }) (voted p m box)
unfolding voted before cell_after voted_cell
memory-voted p m box {counter} {g} {cells} e h k =
    let same : cells ≡ fill (voted_cell p m box (before p (voted_counter p m box))) p.cells m.cells = k ∙ rw (h, e) in
    λ i. record { counter = e i; cells = same i }

-- ---- the setpoints of an accepted plan, in as many places as it has actuators

pub places-right : (p : Plan) → accepted p ≡ true → {n : ℕ} → n ≡ p.actuators → (n ≤ most_actuators) × ((i : ℕ) → i < n → get_or p.actuator_cell i 0 < most_cells)
places-right p a e = let s = shape-of-accepted p a in (omega (arith, e, s.actuators-le), λ i l. omega (arith, s.actuator i (omega (arith, e, l)), s.cells-le))

pub places-all : (p : Plan) (m : Memory) {n : ℕ} (out : List ℕ) → n ≡ p.actuators → fill (setpoint p m) n out ≡ fill (setpoint p m) p.actuators out
places-all p m out e = ap (λ (k : ℕ). fill (setpoint p m) k out) e
