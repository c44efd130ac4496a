-- Laws of the tests of a record's entries, for the loops of src/entries.rt, and of what every value of the Rattle type has, which no
-- call tests.
use mathlib.Core.Path.{◌≡◌, refl, sym, ◌∙◌}
use mathlib.Core.Logic.{◌⊎◌, inl, inr}
use mathlib.Core.List.{List, [], ◌∷◌}
use mathlib.Core.Bool.{Bool, true, false, not, cond, ◌&&◌, ◌||◌, and-false, and-true}
use Prim.Native.Nat.{ℕ, zero, suc, ◌+◌, ◌-◌, ◌^◌, ◌≤◌, ◌<◌}
use native.Mathlib.Omega.{arith}
use native.Mathlib.Nat.{not-suc-le-zero}
use lib.ListN.{get_or, length}
use lib.Dec.{eqb, leb, ltb}
use mir.Syntax.{w64}
use mir.Val.{Val}
use denote.RattleType.{RattleType}
use denote.Plain.{UInt}
use denote.Shadow.{shadow}
use denote.Laws.{Is}
use denote.Array.{each}
use borrow.Author.Tests.{lt-ltb, le-ltb, le-leb, eq-eqb, ne_eqb, not-true, not-false}
use Rattle.array.specs.Index.{all_below, all_in}
use Rattle.array.proofs.IndexLaws.{all_below-at, all_below-all}
use Rattle.array.proofs.TestLaws.{and_both}
use Rattle.plan.specs.declared.Op.{Op}
use Rattle.plan.specs.declared.Op.TheVariants.{Take, Sum, Diff, Scale, Limit, Wind, Cam}
use Rattle.plan.specs.declared.Task.{Task}
use Rattle.plan.specs.declared.Plan.{Plan}
use Rattle.plan.specs.Tables.{unused_task, task_at, vote_place, voted_in}
use Rattle.plan.specs.Accepted.{header_ok, task_ok, is_unused, not_falling, task_entry, initial_entry, vote_entry, actuator_entry, entries_ok, op_storable, storable, well_formed}
use Rattle.plan.specs.contracts.Op as OpType
use Rattle.plan.specs.contracts.Task as TaskType
use Rattle.plan.specs.contracts.Plan as PlanType

-- a loop is done: all of the places that it has passed, n among them or not, pass the test
pub all_done : (q : ℕ → Bool) {k n : ℕ} → all_below q k ≡ true → n ≤ k → true ≡ all_below q n
all_done q {k} {n} h l = sym (all_below-all q n (λ j m. all_below-at q k j (omega arith) h))

-- ---- the cells of a task in range, tested one by one

module _ (n : ℕ) where
  pub one_in : (a : ℕ) → ltb a n ≡ all_in (λ c. ltb c n) (a ∷ [])
  unfolding all_in
  one_in a = sym (and-true (ltb a n))

  pub two_in : (a b : ℕ) → (ltb a n && ltb b n) ≡ all_in (λ c. ltb c n) (a ∷ b ∷ [])
  unfolding all_in
  two_in a b = rw (and-true (ltb b n))

-- ---- a row of the table of votes

-- no vote, or a place in front
free-front : (v : Bool) {b : Bool} → b ≡ true → (not v || b) ≡ true
free-front true h = h
free-front false h = refl

pub free-none : {v : Bool} (b : Bool) → v ≡ false → (not v || b) ≡ true
free-none b h = rw h

pub free-voted : {v b : Bool} → v ≡ true → b ≡ false → (not v || b) ≡ false
free-voted h k = rw (h, k)

ltb-zero : (c : ℕ) → ltb c 0 ≡ false
ltb-zero c = le-ltb c 0 (omega arith)

module _ (voted : List Bool) (g : ℕ) where
  -- the places in front of a row's first free one pass
  pub row-front : (first : ℕ) → all_below (λ c. not (get_or voted (vote_place g c) false) || ltb c first) first ≡ true
  row-front first =
      all_below-all (λ c. not (get_or voted (vote_place g c) false) || ltb c first) first
      (λ c l. free-front (get_or voted (vote_place g c) false) (lt-ltb c first l))

  -- a row is free past the plan's cells in a frame of the plan, and from 0 on in any other: what the test of the row says, the test
  -- of the frame's entries says
  pub row_is : (frames cells first : ℕ) {r t : Bool}
      → ((g < frames) × (first ≡ cells)) ⊎ ((frames ≤ g) × (first ≡ 0))
      → r ≡ all_below (λ c. not (get_or voted (vote_place g c) false) || ltb c first) 32
      → r ≡ t
      → all_below (λ c. not (get_or voted (vote_place g c) false) || (ltb g frames && ltb c cells)) 32 ≡ t
  row_is frames cells first (inl (l, e)) h k = rw (lt-ltb g frames l, ← e) (sym h ∙ k)
  row_is frames cells first (inr (l, e)) h k =
      rw (le-ltb g frames l) (simp ltb-zero at (rw e at (sym h ∙ k)))

-- ---- the tasks

-- the frame of the task before entry k, and 0 for the first: what an entry's frame is held to
abbrev pub Before : Plan → ℕ → ℕ → Type 0
Before p k last = (x : ℕ) → (eqb k 0 || leb (task_at p (k - 1)).frame x) ≡ leb last x

pub before-first : (p : Plan) → Before p 0 0
before-first p x = rw (eq-eqb 0 0 refl, le-leb 0 x (omega arith))

pub before-next : (p : Plan) (k : ℕ) → Before p (k + 1) (task_at p k).frame
before-next p k x =
    let e : k + 1 - 1 ≡ k = omega arith in
    rw (ne_eqb (k + 1) 0 (λ z. omega arith), e)

-- what `entry_ok` says of the entry, the test of entry k says
pub entry-is : (p : Plan) (k last : ℕ) {r t : Bool}
    → Before p k last
    → r
    ≡ cond (ltb k p.task_count)
    (task_ok p.frames p.cells p.sensors (task_at p k) && leb last (task_at p k).frame)
    (is_unused (task_at p k))
    → r ≡ t
    → task_entry p k ≡ t
unfolding task_entry not_falling
entry-is p k last f h e = rw (f (task_at p k).frame) (sym h ∙ e)

-- ---- what every value of the Rattle type has

-- an element of an array is a value of its type: `Is` is what owning a value tells (`c.good`)
pub element : (R : RattleType) (xs : List R.Denot) (us : List Val)
    → shadow (each R.Denot R.own_val xs us)
    → (k : ℕ) (d : R.Denot)
    → k < length xs
    → (vs : List Val) × Is R (get_or xs k d) vs
element R [] us s k d l = absurd (not-suc-le-zero l)
element R (x ∷ xs) [] s k d l = absurd s
element R (x ∷ xs) (u ∷ us) s zero d l = (u ∷ [], s.0)
element R (x ∷ xs) (u ∷ us) s (suc k) d l = element R xs us s.1 k d (omega arith)

-- the constants in a value of the type `Op` are of binary64
pub op_fits : (o : Op) (vs : List Val) → Is OpType.the_row o vs → op_storable o ≡ true
unfolding op_storable
op_fits (Take s) vs g = refl
op_fits (Sum a b) vs g = refl
op_fits (Diff a b) vs g = refl
op_fits (Scale a factor) vs g = g.1.1.1.1.1.0.1
op_fits (Limit a low high) vs g = and_both g.1.1.1.1.1.0.1 g.1.1.1.1.1.1.0.1
op_fits (Wind a law) vs g = and_both g.1.1.1.1.1.0.1.1.0.1 g.1.1.1.1.1.0.1.1.1.0.1
op_fits (Cam a) vs g = refl

-- the number in a cell fits
cell-fits : (xs : List ℕ) (us : List Val)
    → shadow (each ℕ (UInt w64).own_val xs us)
    → length xs ≡ 32
    → all_below (λ c. ltb (get_or xs c 0) (2 ^ 64)) 32 ≡ true
cell-fits xs us s e =
    all_below-all (λ c. ltb (get_or xs c 0) (2 ^ 64)) 32
    (λ c l. lt-ltb (get_or xs c 0) (2 ^ 64) (element (UInt w64) xs us s c 0 (omega arith)).1.1)

-- and so do the constants of the tasks
constants-fit : (xs : List Task) (us : List Val)
    → shadow (each (TaskType.the_row).Denot (TaskType.the_row).own_val xs us)
    → length xs ≡ 64
    → all_below (λ k. op_storable (get_or xs k unused_task).op) 64 ≡ true
constants-fit xs us s e =
    all_below-all (λ k. op_storable (get_or xs k unused_task).op) 64
    (λ k l.
    op_fits (get_or xs k unused_task).op _
    (element TaskType.the_row xs us s k unused_task (omega arith)).1.1.1.1.1.0)

pub plan-storable : (p : Plan) (vs : List Val) → Is PlanType.the_row p vs → storable p ≡ true
unfolding storable
plan-storable p vs g =
    let initial = g.1.1.1.1.1.1.1.0 in
    let tasks = g.1.1.1.1.1.1.1.1.1.0 in
    let voted = g.1.1.1.1.1.1.1.1.1.1.0 in
    let cells = g.1.1.1.1.1.1.1.1.1.1.1.0 in
    let i = initial.1.0.1 in
    let t = tasks.1.0.1 in
    let v = voted.1.0.1 in
    let a = cells.1.0.1 in
    and_both
    (and_both (and_both (and_both (and_both (eq-eqb _ _ i) (eq-eqb _ _ t)) (eq-eqb _ _ v)) (eq-eqb _ _ a))
    (cell-fits p.initial initial.0 initial.1.1 i))
    (constants-fit p.tasks tasks.0 tasks.1.1 t)

-- ---- a record is well-formed by its header and four tables, tested in this order

failed : {r b : Bool} → r ≡ b → not r ≡ true → b ≡ false
failed {r} e h = sym e ∙ not-true r h

passed : {r b : Bool} → r ≡ b → not r ≡ false → b ≡ true
passed {r} e h = sym e ∙ not-false r h

module _ (p : Plan) where
  abbrev header : Bool
  header = header_ok p.nodes p.frames p.cells p.sensors p.actuators p.task_count

  abbrev tasks : Bool
  tasks = all_below (task_entry p) 64

  abbrev initial : Bool
  initial = all_below (λ c. ltb c p.cells || eqb (get_or p.initial c 0) 0) 32

  abbrev votes : Bool
  votes =
      all_below
      (λ g. all_below (λ c. not (get_or p.voted (vote_place g c) false) || (ltb g p.frames && ltb c p.cells)) 32)
      16

  abbrev actuators : Bool
  actuators =
      all_below
      (λ i. cond (ltb i p.actuators) (ltb (get_or p.actuator_cell i 0) p.cells) (eqb (get_or p.actuator_cell i 0) 0))
      8

  -- a test's result, and that the code's `!` of it was true
  pub no_header : {r : Bool} → r ≡ header → not r ≡ true → false ≡ well_formed p
  unfolding well_formed
  no_header e h = simp (failed e h, and-false)

  pub no-tasks : {r : Bool} → r ≡ tasks → not r ≡ true → false ≡ well_formed p
  unfolding well_formed entries_ok
  no-tasks e h = simp (failed e h, and-false)

  pub no-initial : {r : Bool} → r ≡ initial → not r ≡ true → false ≡ well_formed p
  unfolding well_formed entries_ok initial_entry
  no-initial e h = simp (failed e h, and-false)

  pub no-votes : {r : Bool} → r ≡ votes → not r ≡ true → false ≡ well_formed p
  unfolding well_formed entries_ok vote_entry voted_in
  no-votes e h = simp (failed e h, and-false)

  -- or was false of all four, so that the last test says it
  pub all-but-actuators : {h t i v r : Bool}
      → storable p ≡ true
      → h ≡ header
      → not h ≡ false
      → t ≡ tasks
      → not t ≡ false
      → i ≡ initial
      → not i ≡ false
      → v ≡ votes
      → not v ≡ false
      → r ≡ actuators
      → r ≡ well_formed p
  unfolding well_formed entries_ok initial_entry vote_entry voted_in actuator_entry
  all-but-actuators s eh h et t ei i ev v a = rw (s, passed eh h, passed et t, passed ei i, passed ev v) a
