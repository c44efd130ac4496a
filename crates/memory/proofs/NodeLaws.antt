-- Laws of a node's memory: at power-on, through compute, and at the setpoints.
use mathlib.Core.Path.{◌≡◌, refl}
use mathlib.Core.Bool.{Bool}
use mathlib.Core.List.{List}
use Prim.Native.Nat.{ℕ, ◌+◌, ◌%◌, ◌≤◌, ◌<◌}
use native.Mathlib.Omega.{arith}
use native.Mathlib.Nat.{mod-eq_of_lt, mod-lt}
use lib.ListN.{length, get_or}
use lib.Seq.{ext_get_or}
use Rattle.plan.specs.declared.Plan.{Plan}
use Rattle.plan.specs.Limits.{most_cells}
use Rattle.plan.specs.Known.{know_tasks}
use Rattle.plan.proofs.AcceptedLaws.{Shape}
use Rattle.memory.specs.declared.Memory.{Memory}
use Rattle.memory.specs.Node.{powered_on, computed}
use Rattle.task.proofs.TaskLaws.{Agree, Bounded, run_tasks-length, run_tasks-past, run_tasks-bounded, run_tasks-agree}

pub memory-same :
    (m s : Memory) →
    m.counter ≡ s.counter →
    length m.cells ≡ length s.cells →
    ((c : ℕ) → c < length m.cells → get_or m.cells c 0 ≡ get_or s.cells c 0) →
    m ≡ s
memory-same m s e size f =
    let cells : m.cells ≡ s.cells = ext_get_or 0 m.cells s.cells size f in λ i. record { counter = e i; cells = cells i }

-- ---- power-on

module _ (p : Plan) where
  pub powered_on-counter : (powered_on p).counter ≡ 0
  unfolding powered_on
  powered_on-counter = refl

  module _ (s : Shape p) where
    pub powered_on-small : (powered_on p).counter < p.frames
    unfolding powered_on
    powered_on-small = s.frames-pos

    pub powered_on-length : length (powered_on p).cells ≡ most_cells
    unfolding powered_on
    powered_on-length = s.initial-length

    pub powered_on-bounded : Bounded (powered_on p).cells
    unfolding powered_on
    powered_on-bounded = s.initial-small

-- ---- compute

module _ (p : Plan) (sensors : List ℕ) (m : Memory) where
  pub computed-small : 0 < p.frames → (computed p sensors m).counter < p.frames
  unfolding computed
  computed-small l = mod-lt (m.counter % p.frames + 1) l

  pub computed-next : m.counter < p.frames → (computed p sensors m).counter ≡ (m.counter + 1) % p.frames
  unfolding computed
  computed-next l = rw (mod-eq_of_lt l)

  pub computed-length : length (computed p sensors m).cells ≡ length m.cells
  unfolding computed
  computed-length = run_tasks-length p (m.counter % p.frames) sensors p.task_count m.cells

  module _ (s : Shape p) where
    -- cells from C on stay
    pub computed-past : (c : ℕ) → p.cells ≤ c → get_or (computed p sensors m).cells c 0 ≡ get_or m.cells c 0
    unfolding computed
    computed-past c l = run_tasks-past p s (m.counter % p.frames) sensors p.task_count m.cells c (omega arith) l

    pub computed-bounded : Bounded sensors → Bounded m.cells → Bounded (computed p sensors m).cells
    unfolding computed
    computed-bounded = run_tasks-bounded p s (m.counter % p.frames) sensors p.task_count m.cells (omega arith)

-- two memories with one counter: what they agree on gives what they agree on after
pub computed-agree :
    (p : Plan) (sensors : List ℕ) (m s : Memory) (ks : List Bool) →
    m.counter ≡ s.counter →
    length m.cells ≡ length s.cells →
    Agree ks m.cells s.cells →
    Agree (know_tasks p (s.counter % p.frames) p.task_count ks) (computed p sensors m).cells (computed p sensors s).cells
unfolding computed
computed-agree p sensors m s ks e size same =
    rw e (run_tasks-agree p (s.counter % p.frames) sensors p.task_count ks m.cells s.cells size same)
