-- Laws of the known cells: lengths, what a task and a vote do to each cell, and that more known before gives more known after.
use mathlib.Core.Path.{◌≡◌, refl, sym, ◌∙◌}
use mathlib.Core.Bool.{Bool, true, false, ◌||◌}
use mathlib.Core.List.{List, Memᴰ}
use Prim.Native.Nat.{ℕ, zero, suc, ◌+◌, ◌%◌, ◌≤◌, ◌<◌}
use native.Mathlib.Omega.{arith}
use native.Mathlib.Nat.{not-suc-le-zero}
use lib.Dec.{eqb, ltb}
use lib.ListN.{length, get_or, set, length-set, get_or-replicate, get_or-eq_default}
use lib.Seq.{get_or-set_same, get_or-set_other}
use borrow.Author.Tests.{ltb-true, ltb-false, eqb-true, eqb-false, eq-eqb, ne_eqb}
use Rattle.array.proofs.IndexLaws.{all_in-at, all_in-all}
use Rattle.array.proofs.TestLaws.{split, clash, and_left}
use Rattle.plan.specs.declared.Op.{Op}
use Rattle.plan.specs.declared.Task.{Task}
use Rattle.plan.specs.declared.Plan.{Plan}
use Rattle.plan.specs.Limits.{most_cells}
use Rattle.plan.specs.Known.{reads, reads_known, know_task, know_tasks, know_voted, know_frame, none_known, known}
use Rattle.plan.specs.Tables.{task_at, voted_in}
use Rattle.plan.specs.Accepted.{op_ok}
use Rattle.plan.proofs.AcceptedLaws.{Shape}

-- a known cell has a place in the list
in-of : (ks : List Bool) (x : ℕ) → get_or ks x false ≡ true → x < length ks
in-of ks x e =
    split (ltb x (length ks)) (ltb-true x (length ks))
    (λ t. absurd (clash e (get_or-eq_default ks false {n = x} (ltb-false x (length ks) t))))

-- ---- one task

module _ (g : ℕ) (t : Task) (ks : List Bool) where
  -- a task of another frame changes nothing
  pub task-elsewhere : (t.frame ≡ g → ⊥) → know_task g t ks ≡ ks
  unfolding know_task
  task-elsewhere f = rw (ne_eqb t.frame g f)

  pub task-here : t.frame ≡ g → know_task g t ks ≡ set ks t.target (reads_known t.op t.target ks)
  unfolding know_task
  task-here e = rw (eq-eqb t.frame g e)

  pub task-length : length (know_task g t ks) ≡ length ks
  unfolding know_task
  task-length = split (eqb t.frame g) (λ e. rw e (length-set ks t.target _)) (λ e. rw e)

  pub task-target : t.frame ≡ g → t.target < length ks → get_or (know_task g t ks) t.target false ≡ reads_known t.op t.target ks
  task-target e l = rw (task-here e) (get_or-set_same ks t.target _ false l)

  pub task-other : (x : ℕ) → (x ≡ t.target → ⊥) → get_or (know_task g t ks) x false ≡ get_or ks x false
  unfolding know_task
  task-other x f = split (eqb t.frame g) (λ e. rw e (get_or-set_other ks t.target x _ false f)) (λ e. rw e)

-- ---- the votes of a frame, on the cells below k

module _ (p : Plan) (g : ℕ) where
  pub voted-hit : (k : ℕ) (ks : List Bool) → voted_in p g k ≡ true → know_voted p g (suc k) ks ≡ set (know_voted p g k ks) k true
  unfolding know_voted
  voted-hit k ks v = rw v

  pub voted-length : (k : ℕ) (ks : List Bool) → length (know_voted p g k ks) ≡ length ks
  unfolding know_voted
  voted-length zero ks = refl
  voted-length (suc k) ks = split (voted_in p g k) (λ v. rw v (length-set (know_voted p g k ks) k true)) (λ v. rw v) ∙ voted-length k ks

  -- the vote on cell k changes no other
  voted-other : (k : ℕ) (ks : List Bool) (x : ℕ) → (x ≡ k → ⊥) → get_or (know_voted p g (suc k) ks) x false ≡ get_or (know_voted p g k ks) x false
  unfolding know_voted
  voted-other k ks x f = split (voted_in p g k) (λ v. rw v (get_or-set_other (know_voted p g k ks) k x true false f)) (λ v. rw v)

  -- a cell not below k is as it was
  pub voted-past : (k : ℕ) (ks : List Bool) (x : ℕ) → k ≤ x → get_or (know_voted p g k ks) x false ≡ get_or ks x false
  unfolding know_voted
  voted-past zero ks x l = refl
  voted-past (suc k) ks x l = voted-other k ks x (omega arith) ∙ voted-past k ks x (omega arith)

  -- and so is a cell that is not voted
  pub voted-not : (k : ℕ) (ks : List Bool) (x : ℕ) → voted_in p g x ≡ false → get_or (know_voted p g k ks) x false ≡ get_or ks x false
  unfolding know_voted
  voted-not zero ks x v = refl
  voted-not (suc k) ks x v =
      split (eqb x k)
      (λ t. rw (rw (eqb-true x k t) at v) (voted-not k ks x v))
      (λ t. voted-other k ks x (eqb-false x k t) ∙ voted-not k ks x v)

  -- a voted cell below k is known
  pub voted-on : (k : ℕ) (ks : List Bool) (x : ℕ) → x < k → x < length ks → voted_in p g x ≡ true → get_or (know_voted p g k ks) x false ≡ true
  voted-on zero ks x l m v = absurd (not-suc-le-zero l)
  voted-on (suc k) ks x l m v =
      split (eqb x k)
      (λ t. rw (voted-hit k ks (rw (eqb-true x k t) at v), eqb-true x k t) (get_or-set_same (know_voted p g k ks) k true false (omega (arith, voted-length k ks, eqb-true x k t))))
      (λ t. voted-other k ks x (eqb-false x k t) ∙ voted-on k ks x (omega (arith, eqb-false x k t)) m v)

  -- so a cell below k is known after the votes exactly if it is voted, or was known
  pub voted-is : (k : ℕ) (ks : List Bool) (x : ℕ) → x < k → x < length ks → get_or (know_voted p g k ks) x false ≡ (voted_in p g x || get_or ks x false)
  voted-is k ks x l m = split (voted_in p g x) (λ v. rw v (voted-on k ks x l m v)) (λ v. rw v (voted-not k ks x v))

  -- what was known stays known
  pub voted-keeps : (k : ℕ) (ks : List Bool) (x : ℕ) → get_or ks x false ≡ true → get_or (know_voted p g k ks) x false ≡ true
  voted-keeps k ks x e =
      split (voted_in p g x)
      (λ v. split (ltb x k) (λ l. voted-on k ks x (ltb-true x k l) (in-of ks x e) v) (λ l. voted-past k ks x (ltb-false x k l) ∙ e))
      (λ v. voted-not k ks x v ∙ e)

-- ---- the frames

module _ (p : Plan) (g : ℕ) where
  pub tasks-length : (k : ℕ) (ks : List Bool) → length (know_tasks p g k ks) ≡ length ks
  unfolding know_tasks
  tasks-length zero ks = refl
  tasks-length (suc k) ks = task-length g (task_at p k) (know_tasks p g k ks) ∙ tasks-length k ks

  pub frame-length : (ks : List Bool) → length (know_frame p g ks) ≡ length ks
  unfolding know_frame
  frame-length ks = voted-length p g p.cells _ ∙ tasks-length p.task_count ks

  pub known-none : known p g 0 ≡ none_known
  unfolding known
  known-none = refl

  pub known-first : known p g 1 ≡ know_voted p g p.cells none_known
  unfolding known
  known-first = refl

  pub known_next : (h : ℕ) → known p g (suc (suc h)) ≡ know_frame p ((g + suc h) % p.frames) (known p g (suc h))
  unfolding known
  known_next h = refl

pub known-length : (p : Plan) (g h : ℕ) → length (known p g h) ≡ most_cells
known-length p g zero = rw (known-none p g)
known-length p g (suc zero) = rw (known-first p g) (voted-length p g p.cells none_known)
known-length p g (suc (suc h)) = rw (known_next p g h) (frame-length p _ (known p g (suc h)) ∙ known-length p g (suc h))

pub none-known : (x : ℕ) → get_or none_known x false ≡ false
none-known x =
    split (ltb x most_cells)
    (λ t. get_or-replicate most_cells x false false (ltb-true x most_cells t))
    (λ t. get_or-eq_default none_known false {n = x} (ltb-false x most_cells t))

-- ---- more known before gives more known after

-- each of the first n cells that ks knows, ls knows
abbrev pub Sub : ℕ → List Bool → List Bool → Type 0
Sub n ks ls = (x : ℕ) → x < n → get_or ks x false ≡ true → get_or ls x false ≡ true

-- the first n cells are known
abbrev pub All : ℕ → List Bool → Type 0
All n ks = (x : ℕ) → x < n → get_or ks x false ≡ true

pub none-sub : (n : ℕ) (ls : List Bool) → Sub n none_known ls
none-sub n ls x l e = absurd (clash e (none-known x))

-- for cells in range
module _ (n m t : ℕ) (o : Op) (ok : op_ok n m t o ≡ true) where
  reads_in : {x : ℕ} → Memᴰ x (reads o t) → x < n
  unfolding op_ok
  reads_in {x} i = ltb-true x n (all_in-at (λ c. ltb c n) (reads o t) (and_left _ _ ok) i)

  pub reads-sub : (ks ls : List Bool) → Sub n ks ls → reads_known o t ks ≡ true → reads_known o t ls ≡ true
  unfolding reads_known
  reads-sub ks ls h e = all_in-all _ (reads o t) (λ x i. h x (reads_in i) (all_in-at (λ c. get_or ks c false) (reads o t) e i))

  pub reads_all : (ks : List Bool) → All n ks → reads_known o t ks ≡ true
  unfolding reads_known
  reads_all ks h = all_in-all _ (reads o t) (λ x i. h x (reads_in i))

module _ (n m g : ℕ) (t : Task) (tl : t.target < n) (ok : op_ok n m t.target t.op ≡ true) where
  pub task-sub : (ks ls : List Bool) → n ≤ length ls → Sub n ks ls → Sub n (know_task g t ks) (know_task g t ls)
  task-sub ks ls l h x xl =
      split (eqb t.frame g)
      (λ e. split (eqb x t.target) (λ q. rw (eqb-true x t.target q) (at_target (eqb-true t.frame g e)))
      (λ q k. task-other g t ls x (eqb-false x t.target q) ∙ h x xl (sym (task-other g t ks x (eqb-false x t.target q)) ∙ k)))
      (λ e. rw (task-elsewhere g t ks (eqb-false t.frame g e), task-elsewhere g t ls (eqb-false t.frame g e)) (h x xl))
    where
      at_target : t.frame ≡ g → get_or (know_task g t ks) t.target false ≡ true → get_or (know_task g t ls) t.target false ≡ true
      at_target f k =
          task-target g t ls f (omega arith)
          ∙ reads-sub n m t.target t.op ok ks ls h
          (sym (task-target g t ks f (omega (arith, in-of (know_task g t ks) t.target k, task-length g t ks))) ∙ k)

  pub task-all : (ks : List Bool) → n ≤ length ks → All n ks → All n (know_task g t ks)
  task-all ks l h x xl =
      split (eqb t.frame g)
      (λ e. split (eqb x t.target)
      (λ q. rw (eqb-true x t.target q) (task-target g t ks (eqb-true t.frame g e) (omega arith) ∙ reads_all n m t.target t.op ok ks h))
      (λ q. task-other g t ks x (eqb-false x t.target q) ∙ h x xl))
      (λ e. rw (task-elsewhere g t ks (eqb-false t.frame g e)) (h x xl))

module _ (p : Plan) (s : Shape p) (g : ℕ) where
  tasks-sub :
      (k : ℕ) (ks ls : List Bool) →
      k ≤ p.task_count →
      p.cells ≤ length ls →
      Sub p.cells ks ls →
      Sub p.cells (know_tasks p g k ks) (know_tasks p g k ls)
  unfolding know_tasks
  tasks-sub zero ks ls l m h = h
  tasks-sub (suc k) ks ls l m h =
      task-sub p.cells p.sensors g (task_at p k) (s.target k l) (s.op k l) _ _ (omega (arith, tasks-length p g k ls))
      (tasks-sub k ks ls (omega arith) m h)

  tasks-all : (k : ℕ) (ks : List Bool) → k ≤ p.task_count → p.cells ≤ length ks → All p.cells ks → All p.cells (know_tasks p g k ks)
  unfolding know_tasks
  tasks-all zero ks l m h = h
  tasks-all (suc k) ks l m h =
      task-all p.cells p.sensors g (task_at p k) (s.target k l) (s.op k l) _ (omega (arith, tasks-length p g k ks))
      (tasks-all k ks (omega arith) m h)

  pub voted-sub : (ks ls : List Bool) → p.cells ≤ length ls → Sub p.cells ks ls → Sub p.cells (know_voted p g p.cells ks) (know_voted p g p.cells ls)
  voted-sub ks ls m h x xl e =
      split (voted_in p g x)
      (voted-on p g p.cells ls x xl (omega arith))
      (λ v. voted-not p g p.cells ls x v ∙ h x xl (sym (voted-not p g p.cells ks x v) ∙ e))

  pub frame-sub : (ks ls : List Bool) → p.cells ≤ length ls → Sub p.cells ks ls → Sub p.cells (know_frame p g ks) (know_frame p g ls)
  unfolding know_frame
  frame-sub ks ls m h = voted-sub _ _ (omega (arith, tasks-length p g p.task_count ls)) (tasks-sub p.task_count ks ls (omega arith) m h)

  -- as a first frame it gives no more than as a later one
  pub first-sub : (ls : List Bool) → p.cells ≤ length ls → Sub p.cells (know_voted p g p.cells none_known) (know_frame p g ls)
  unfolding know_frame
  first-sub ls m =
      let us : List Bool = know_tasks p g p.task_count ls in
      voted-sub none_known us (omega (arith, tasks-length p g p.task_count ls)) (none-sub p.cells us)

  -- where all cells are known, they stay so
  pub frame-all : (ks : List Bool) → p.cells ≤ length ks → All p.cells ks → All p.cells (know_frame p g ks)
  unfolding know_frame
  frame-all ks m h x xl = voted-keeps p g p.cells _ x (tasks-all p.task_count ks (omega arith) m h x xl)
