-- Laws of tasks: a task reads only the cells that it names and changes only its target; every result is a pattern;
-- Limit, Wind and Cam leave their targets within their bounds.
use mathlib.Core.Path.{◌≡◌, refl, sym, ◌∙◌}
use mathlib.Core.Bool.{Bool, true, false}
use mathlib.Core.List.{List, Memᴰ}
use Prim.Native.Nat.{ℕ, zero, suc, ◌^◌, ◌≤◌, ◌<◌}
use native.Mathlib.Omega.{arith}
use lib.Dec.{T, eqb, ltb}
use lib.Ieee.{binary64, fits, le, neg}
use lib.ListN.{length, get_or, set, length-set, get_or-eq_default}
use lib.Seq.{get_or-set_same, get_or-set_other, set_out}
use borrow.Author.Tests.{ltb-true, ltb-false, eqb-true, eqb-false, eq-eqb, ne_eqb}
use Rattle.array.proofs.IndexLaws.{all_in-at}
use Rattle.array.proofs.TestLaws.{split, clash, and_left, and_right}
use Rattle.pattern.specs.Constant.{is_finite, finite_unsigned, Within}
use Rattle.pattern.proofs.PatternLaws.{sum_bound, diff-bound, scale-bound, limit-bound, wind-bound}
use Rattle.pattern.proofs.BoundLaws.{limit-within, wind-within}
use Rattle.cam.specs.Cam.{float_zero}
use Rattle.cam.proofs.CamLaws.{float_most, cam-bound, cam-within}
use Rattle.plan.specs.declared.Op.{Op}
use Rattle.plan.specs.declared.Op.TheVariants.{Take, Sum, Diff, Scale, Limit, Wind, Cam}
use Rattle.plan.specs.declared.Task.{Task}
use Rattle.plan.specs.declared.Plan.{Plan}
use Rattle.plan.specs.Known.{reads, reads_known, know_task, know_tasks}
use Rattle.plan.specs.Tables.{task_at}
use Rattle.plan.specs.Accepted.{op_ok, constants_ok, op_storable}
use Rattle.plan.proofs.AcceptedLaws.{Shape}
use Rattle.task.specs.Task.{op_value, run_task, run_tasks}

-- ---- one task changes its target only

module _ (g : ℕ) (sensors : List ℕ) (t : Task) (cells : List ℕ) where
  pub run_task-elsewhere : (t.frame ≡ g → ⊥) → run_task g sensors t cells ≡ cells
  unfolding run_task
  run_task-elsewhere f = rw (ne_eqb t.frame g f)

  pub run_task-here : t.frame ≡ g → run_task g sensors t cells ≡ set cells t.target (op_value t.op t.target sensors cells)
  unfolding run_task
  run_task-here e = rw (eq-eqb t.frame g e)

  pub run_task-length : length (run_task g sensors t cells) ≡ length cells
  unfolding run_task
  run_task-length = split (eqb t.frame g) (λ e. rw e (length-set cells t.target _)) (λ e. rw e)

  pub run_task-other : (x : ℕ) → (x ≡ t.target → ⊥) → get_or (run_task g sensors t cells) x 0 ≡ get_or cells x 0
  unfolding run_task
  run_task-other x f = split (eqb t.frame g) (λ e. rw e (get_or-set_other cells t.target x _ 0 f)) (λ e. rw e)

  pub run_task-target :
      t.frame ≡ g →
      t.target < length cells →
      get_or (run_task g sensors t cells) t.target 0 ≡ op_value t.op t.target sensors cells
  run_task-target e l = rw (run_task-here e) (get_or-set_same cells t.target _ 0 l)

-- ---- it reads the cells of `reads` only

module _ (a b : List ℕ) where
  -- a and b are the same at each cell that the task reads
  abbrev SameRead : Op → ℕ → Type 0
  SameRead o t = (x : ℕ) → Memᴰ x (reads o t) → get_or a x 0 ≡ get_or b x 0

  pub op_value-reads : (o : Op) (t : ℕ) (sensors : List ℕ) → SameRead o t → op_value o t sensors a ≡ op_value o t sensors b
  unfolding op_value reads
  op_value-reads (Take s) t sensors h = refl
  op_value-reads (Sum x y) t sensors h = rw (h x (Memᴰ.head refl), h y (Memᴰ.tail (Memᴰ.head refl)))
  op_value-reads (Diff x y) t sensors h = rw (h x (Memᴰ.head refl), h y (Memᴰ.tail (Memᴰ.head refl)))
  op_value-reads (Scale x factor) t sensors h = rw (h x (Memᴰ.head refl))
  op_value-reads (Limit x low high) t sensors h = rw (h x (Memᴰ.head refl))
  op_value-reads (Wind x law) t sensors h = rw (h x (Memᴰ.head refl), h t (Memᴰ.tail (Memᴰ.head refl)))
  op_value-reads (Cam x) t sensors h = rw (h x (Memᴰ.head refl))

-- where two lists agree on the known cells, they do after it

-- a and b are the same at each cell that ks knows
abbrev pub Agree : List Bool → List ℕ → List ℕ → Type 0
Agree ks a b = (x : ℕ) → get_or ks x false ≡ true → get_or a x 0 ≡ get_or b x 0

module _ (ks : List Bool) (a b : List ℕ) (same : Agree ks a b) where
  pub op_value-agree : (o : Op) (t : ℕ) (sensors : List ℕ) → reads_known o t ks ≡ true → op_value o t sensors a ≡ op_value o t sensors b
  unfolding reads_known
  op_value-agree o t sensors r = op_value-reads a b o t sensors (λ x i. same x (all_in-at (λ c. get_or ks c false) (reads o t) r i))

  module _ (t : ℕ) (r : Bool) (v w : ℕ) (size : length a ≡ length b) (new : r ≡ true → v ≡ w) where
    -- only a value that agrees is stored as known
    stored-known : get_or (set ks t r) t false ≡ true → v ≡ w
    stored-known e =
        split (ltb t (length ks))
        (λ l. new (sym (get_or-set_same ks t r false (ltb-true t (length ks) l)) ∙ e))
        (λ l.
        let out : length ks ≤ t = ltb-false t (length ks) l in
        absurd (clash e (rw (set_out ks t r out) (get_or-eq_default ks false out))))

    stored_same : v ≡ w → get_or (set a t v) t 0 ≡ get_or (set b t w) t 0
    stored_same e =
        split (ltb t (length a))
        (λ l.
        let m : t < length a = ltb-true t (length a) l in
        rw (get_or-set_same a t v 0 m, get_or-set_same b t w 0 (omega arith)) e)
        (λ l.
        let m : length a ≤ t = ltb-false t (length a) l in
        let n : length b ≤ t = omega arith in
        rw (set_out a t v m, set_out b t w n, get_or-eq_default a 0 m, get_or-eq_default b 0 n))

    stored-agree : Agree (set ks t r) (set a t v) (set b t w)
    stored-agree x =
        split (eqb x t)
        (λ q. rw (eqb-true x t q) (λ e. stored_same (stored-known e)))
        (λ q.
        let ne : x ≡ t → ⊥ = eqb-false x t q in
        rw (get_or-set_other ks t x r false ne, get_or-set_other a t x v 0 ne, get_or-set_other b t x w 0 ne) (same x))

pub run_task-agree :
    (g : ℕ) (sensors : List ℕ) (t : Task) (ks : List Bool) (a b : List ℕ) →
    length a ≡ length b →
    Agree ks a b →
    Agree (know_task g t ks) (run_task g sensors t a) (run_task g sensors t b)
unfolding know_task run_task
run_task-agree g sensors t ks a b size same =
    split (eqb t.frame g)
    (λ e. rw e (stored-agree ks a b same t.target _ _ _ size (op_value-agree ks a b same t.op t.target sensors)))
    (λ e. rw e same)

-- ---- the tasks of a frame

module _ (p : Plan) (g : ℕ) (sensors : List ℕ) where
  pub run_tasks-length : (k : ℕ) (cells : List ℕ) → length (run_tasks p g sensors k cells) ≡ length cells
  unfolding run_tasks
  run_tasks-length zero cells = refl
  run_tasks-length (suc k) cells = run_task-length g sensors (task_at p k) _ ∙ run_tasks-length k cells

  pub run_tasks-agree :
      (k : ℕ) (ks : List Bool) (a b : List ℕ) →
      length a ≡ length b →
      Agree ks a b →
      Agree (know_tasks p g k ks) (run_tasks p g sensors k a) (run_tasks p g sensors k b)
  unfolding know_tasks run_tasks
  run_tasks-agree zero ks a b size same = same
  run_tasks-agree (suc k) ks a b size same =
      run_task-agree g sensors (task_at p k) _ _ _ (run_tasks-length k a ∙ size ∙ sym (run_tasks-length k b))
      (run_tasks-agree k ks a b size same)

-- ---- every result is a pattern

-- every entry is a pattern
abbrev pub Bounded : List ℕ → Type 0
Bounded l = (x : ℕ) → get_or l x 0 < 2 ^ 64

-- a test that is one of several joined by `&&`, as the pattern laws want it
ruleset joint = (and_left, and_right)

holds : (b : Bool) → b ≡ true → T b
holds b e = rw e tt

pub op_value-bound :
    (o : Op) (t : ℕ) (sensors cells : List ℕ) → op_storable o ≡ true → Bounded sensors → Bounded cells → op_value o t sensors cells < 2 ^ 64
unfolding op_value op_storable
op_value-bound (Take s) t sensors cells f bs bc = bs s
op_value-bound (Sum a b) t sensors cells f bs bc = sum_bound _ _
op_value-bound (Diff a b) t sensors cells f bs bc = diff-bound _ _
op_value-bound (Scale a factor) t sensors cells f bs bc = scale-bound factor _
op_value-bound (Limit a low high) t sensors cells f bs bc =
    limit-bound _ low high (bc a) (holds (fits binary64 low) (search joint)) (holds (fits binary64 high) (search joint))
op_value-bound (Wind a law) t sensors cells f bs bc = wind-bound _ _ law (holds (fits binary64 law.cap) (search joint))
op_value-bound (Cam a) t sensors cells f bs bc = cam-bound _

set-bounded : (l : List ℕ) (t v : ℕ) → Bounded l → v < 2 ^ 64 → Bounded (set l t v)
set-bounded l t v b h x =
    split (eqb x t)
    (λ e. rw (eqb-true x t e) (at_target (ltb t (length l)) refl))
    (λ e. rw (get_or-set_other l t x v 0 (eqb-false x t e)) (b x))
  where
    at_target : (q : Bool) → ltb t (length l) ≡ q → get_or (set l t v) t 0 < 2 ^ 64
    at_target true q = rw (get_or-set_same l t v 0 (ltb-true t (length l) q)) h
    at_target false q = rw (set_out l t v (ltb-false t (length l) q)) (b t)

pub run_task-bounded :
    (g : ℕ) (sensors : List ℕ) (t : Task) (cells : List ℕ) →
    op_storable t.op ≡ true →
    Bounded sensors →
    Bounded cells →
    Bounded (run_task g sensors t cells)
unfolding run_task
run_task-bounded g sensors t cells f bs bc =
    split (eqb t.frame g)
    (λ e. rw e (set-bounded cells t.target _ bc (op_value-bound t.op t.target sensors cells f bs bc)))
    (λ e. rw e bc)

-- ---- Limit and Wind results lie within their bounds, a cam's from 0 to 65,536

-- the pattern r is within the bounds that a Limit, Wind or Cam sets; other tasks set none
abbrev pub InBounds : Op → ℕ → Type 0
InBounds (Take s) r = Unit
InBounds (Sum a b) r = Unit
InBounds (Diff a b) r = Unit
InBounds (Scale a factor) r = Unit
InBounds (Limit a low high) r = Within low high r
InBounds (Wind a law) r = Within (neg law.cap) law.cap r
InBounds (Cam a) r = Within float_zero float_most r

pub op_value-within :
    (n m : ℕ) (o : Op) (t : ℕ) (sensors cells : List ℕ) → op_ok n m t o ≡ true → op_storable o ≡ true → InBounds o (op_value o t sensors cells)
unfolding op_ok constants_ok op_storable op_value
op_value-within n m (Take s) t sensors cells k f = tt
op_value-within n m (Sum a b) t sensors cells k f = tt
op_value-within n m (Diff a b) t sensors cells k f = tt
op_value-within n m (Scale a factor) t sensors cells k f = tt
op_value-within n m (Limit a low high) t sensors cells k f =
    limit-within _ low high
    (holds (fits binary64 low) (search joint))
    (holds (fits binary64 high) (search joint))
    (holds (is_finite low) (search joint))
    (holds (is_finite high) (search joint))
    (holds (le low high) (search joint))
op_value-within n m (Wind a law) t sensors cells k f =
    wind-within _ _ law (holds (fits binary64 law.cap) (search joint)) (holds (finite_unsigned law.cap) (search joint))
op_value-within n m (Cam a) t sensors cells k f = cam-within _

-- ---- the tasks of a plan

module _ (p : Plan) (s : Shape p) (g : ℕ) (sensors : List ℕ) where
  -- cells from C on stay
  pub run_tasks-past :
      (k : ℕ) (cells : List ℕ) (x : ℕ) → k ≤ p.task_count → p.cells ≤ x → get_or (run_tasks p g sensors k cells) x 0 ≡ get_or cells x 0
  unfolding run_tasks
  run_tasks-past zero cells x l h = refl
  run_tasks-past (suc k) cells x l h =
      run_task-other g sensors (task_at p k) _ x (omega (arith, s.target k l)) ∙ run_tasks-past k cells x (omega arith) h

  pub run_tasks-bounded :
      (k : ℕ) (cells : List ℕ) → k ≤ p.task_count → Bounded sensors → Bounded cells → Bounded (run_tasks p g sensors k cells)
  unfolding run_tasks
  run_tasks-bounded zero cells l bs bc = bc
  run_tasks-bounded (suc k) cells l bs bc =
      run_task-bounded g sensors (task_at p k) _ (s.op-storable k l) bs (run_tasks-bounded k cells (omega arith) bs bc)

  -- a task of the frame leaves its target within its bounds
  pub run_tasks-within :
      (k : ℕ) (cells : List ℕ) →
      k < p.task_count →
      p.cells ≤ length cells →
      (task_at p k).frame ≡ g →
      InBounds (task_at p k).op (get_or (run_tasks p g sensors (suc k) cells) (task_at p k).target 0)
  unfolding run_tasks
  run_tasks-within k cells l size e =
      let run : List ℕ = run_tasks p g sensors k cells in
      rw (run_task-target g sensors (task_at p k) run e (omega (arith, s.target k l, run_tasks-length p g sensors k cells)))
      (op_value-within p.cells p.sensors (task_at p k).op _ sensors run (s.op k l) (s.op-storable k l))
