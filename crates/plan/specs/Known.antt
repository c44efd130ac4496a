-- Document 01, 'Recovery': "A cell's being known is defined from the plan only."
use Rattle.std.specs.Prelude.{Bool, true, false, cond, List, [], ◌∷◌, ℕ, zero, suc, ◌+◌, ◌*◌, ◌%◌, get_or, set, replicate, eqb}
use Rattle.array.specs.Index.{all_below, all_in}
use Rattle.plan.specs.declared.Op.{Op}
use Rattle.plan.specs.declared.Op.TheVariants.{Take, Sum, Diff, Scale, Limit, Wind, Cam}
use Rattle.plan.specs.declared.Task.{Task}
use Rattle.plan.specs.declared.Plan.{Plan}
use Rattle.plan.specs.Limits.{most_cells}
use Rattle.plan.specs.Tables.{task_at, voted_in}

-- the cells that a task reads: "Take reads none; Wind reads its target too"; a cam "reads cell a" (request 2026-01)
unfoldable pub reads : Op → ℕ → List ℕ
reads (Take s) target = []
reads (Sum a b) target = a ∷ b ∷ []
reads (Diff a b) target = a ∷ b ∷ []
reads (Scale a factor) target = a ∷ []
reads (Limit a low high) target = a ∷ []
reads (Wind a law) target = a ∷ target ∷ []
reads (Cam a) target = a ∷ []

-- "all cells it reads are known"
unfoldable pub reads_known : Op → ℕ → List Bool → Bool
reads_known o target ks = all_in (λ c. get_or ks c false) (reads o target)

-- "a task's target becomes known if all cells it reads are known, unknown otherwise"
unfoldable pub know_task : ℕ → Task → List Bool → List Bool
know_task g t ks = cond (eqb t.frame g) (set ks t.target (reads_known t.op t.target ks)) ks

-- the first k tasks, those of frame g in order
unfoldable pub know_tasks : Plan → ℕ → ℕ → List Bool → List Bool
know_tasks p g zero ks = ks
know_tasks p g (suc k) ks = know_task g (task_at p k) (know_tasks p g k ks)

-- "then the cells voted in that frame become known": those below k
unfoldable pub know_voted : Plan → ℕ → ℕ → List Bool → List Bool
know_voted p g zero ks = ks
know_voted p g (suc k) ks = cond (voted_in p g k) (set (know_voted p g k ks) k true) (know_voted p g k ks)

-- one good frame g after others
unfoldable pub know_frame : Plan → ℕ → List Bool → List Bool
know_frame p g ks = know_voted p g p.cells (know_tasks p g p.task_count ks)

abbrev pub none_known : List Bool
none_known = replicate most_cells false

-- the known cells after h good frames, the first of them frame g.
-- "After the first good frame g, known cells are those voted in g": its tasks do not count
unfoldable pub known : Plan → ℕ → ℕ → List Bool
known p g zero = none_known
known p g (suc zero) = know_voted p g p.cells none_known
known p g (suc (suc h)) = know_frame p ((g + suc h) % p.frames) (known p g (suc h))

-- for every first frame, all cells are known after h good frames
unfoldable pub all_known : Plan → ℕ → Bool
all_known p h = all_below (λ g. all_below (λ c. get_or (known p g h) c false) p.cells) p.frames

-- the least count from 1 to k after which all cells are known, and 0 if there is none
unfoldable pub period_to : Plan → ℕ → ℕ
period_to p zero = 0
period_to p (suc k) = cond (eqb (period_to p k) 0) (cond (all_known p (suc k)) (suc k) 0) (period_to p k)

-- "R is the least count such that for every first frame, all cells are known after R good frames"; 0 if none exists.
-- "If any exists, R ≤ 1 + F × C": the law `period-least`
unfoldable pub period : Plan → ℕ
period p = period_to p (1 + p.frames * p.cells)
