-- Two plans with the same recovery: they differ in the constants of Winds at most, and in initial values.
-- Recovery is the same for both: known cells, recovery period.
-- These, `node-after-same`, `most_good-same` and `state-same` are kept for request 2026-09; nothing else uses them.
use mathlib.Core.Path.{◌≡◌, refl, sym, ap, ◌∙◌}
use mathlib.Core.Bool.{Bool}
use mathlib.Core.List.{List}
use Prim.Native.Nat.{ℕ, zero, suc, ◌≤◌, ◌<◌}
use native.Mathlib.Omega.{arith}
use Rattle.pattern.specs.declared.WindLaw.{WindLaw}
use Rattle.plan.specs.declared.Op.{Op}
use Rattle.plan.specs.declared.Op.TheVariants.{Wind}
use Rattle.plan.specs.declared.Task.{Task}
use Rattle.plan.specs.declared.Plan.{Plan}
use Rattle.plan.specs.Known.{reads, reads_known, know_task, know_tasks, know_voted, know_frame, none_known, known, all_known, period_to, period}
use Rattle.plan.specs.Tables.{task_at, voted_in}

-- equal but for the constants of a Wind
pub data SameOp : Op → Op → Type 0 where
  same_op : {o : Op} → SameOp o o
  same-wind : {a : ℕ} {law other : WindLaw} → SameOp (Wind a law) (Wind a other)

pub record SameTask (t u : Task) : Type 0 where
  pub frame : t.frame ≡ u.frame
  pub target : t.target ≡ u.target
  pub op : SameOp t.op u.op

pub record SameRecovery (p q : Plan) : Type 0 where
  pub nodes : p.nodes ≡ q.nodes
  pub frames : p.frames ≡ q.frames
  pub cells : p.cells ≡ q.cells
  pub sensors : p.sensors ≡ q.sensors
  pub actuators : p.actuators ≡ q.actuators
  pub tasks : p.task_count ≡ q.task_count
  pub votes : p.voted ≡ q.voted
  pub outputs : p.actuator_cell ≡ q.actuator_cell
  pub task : (k : ℕ) → k < p.task_count → SameTask (task_at p k) (task_at q k)

-- ---- it is an equivalence

op-sym : {o r : Op} → SameOp o r → SameOp r o
op-sym same_op = same_op
op-sym same-wind = same-wind

op-trans : {o r u : Op} → SameOp o r → SameOp r u → SameOp o u
op-trans same_op b = b
op-trans same-wind same_op = same-wind
op-trans same-wind same-wind = same-wind

pub recovery-refl : (p : Plan) → SameRecovery p p
recovery-refl p =
    record {
      nodes = refl;
      frames = refl;
      cells = refl;
      sensors = refl;
      actuators = refl;
      tasks = refl;
      votes = refl;
      outputs = refl;
      task = λ k l. record { frame = refl; target = refl; op = same_op };
    }

pub recovery-sym : {p q : Plan} → SameRecovery p q → SameRecovery q p
recovery-sym r =
    record {
      nodes = sym r.nodes;
      frames = sym r.frames;
      cells = sym r.cells;
      sensors = sym r.sensors;
      actuators = sym r.actuators;
      tasks = sym r.tasks;
      votes = sym r.votes;
      outputs = sym r.outputs;
      task = λ k l.
          let t = r.task k (omega (arith, r.tasks)) in
          record { frame = sym t.frame; target = sym t.target; op = op-sym t.op };
    }

pub recovery-trans : {p q r : Plan} → SameRecovery p q → SameRecovery q r → SameRecovery p r
recovery-trans a b =
    record {
      nodes = a.nodes ∙ b.nodes;
      frames = a.frames ∙ b.frames;
      cells = a.cells ∙ b.cells;
      sensors = a.sensors ∙ b.sensors;
      actuators = a.actuators ∙ b.actuators;
      tasks = a.tasks ∙ b.tasks;
      votes = a.votes ∙ b.votes;
      outputs = a.outputs ∙ b.outputs;
      task = λ k l.
          let t = a.task k l in
          let u = b.task k (omega (arith, a.tasks)) in
          record { frame = t.frame ∙ u.frame; target = t.target ∙ u.target; op = op-trans t.op u.op };
    }

-- ---- the known cells

reads_same : {o r : Op} (t : ℕ) (ks : List Bool) → SameOp o r → reads_known o t ks ≡ reads_known r t ks
unfolding reads_known reads
reads_same t ks same_op = refl
reads_same t ks same-wind = refl

module _ (p q : Plan) (same : SameRecovery p q) where
  voted-same : (g c : ℕ) → voted_in p g c ≡ voted_in q g c
  unfolding voted_in
  voted-same g c = rw same.votes

  know_voted-same : (g k : ℕ) (ks : List Bool) → know_voted p g k ks ≡ know_voted q g k ks
  unfolding know_voted
  know_voted-same g zero ks = refl
  know_voted-same g (suc k) ks = rw (voted-same g k, know_voted-same g k ks)

  know_task-same : (g : ℕ) (t u : Task) (ks : List Bool) → SameTask t u → know_task g t ks ≡ know_task g u ks
  unfolding know_task
  know_task-same g t u ks s = rw (s.frame, s.target, reads_same u.target ks s.op)

  know_tasks-same : (g k : ℕ) (ks : List Bool) → k ≤ p.task_count → know_tasks p g k ks ≡ know_tasks q g k ks
  unfolding know_tasks
  know_tasks-same g zero ks l = refl
  know_tasks-same g (suc k) ks l =
      know_task-same g _ _ _ (same.task k l) ∙ ap (know_task g (task_at q k)) (know_tasks-same g k ks (omega arith))

  know_frame-same : (g : ℕ) (ks : List Bool) → know_frame p g ks ≡ know_frame q g ks
  unfolding know_frame
  know_frame-same g ks =
      know_voted-same g p.cells _ ∙ rw (know_tasks-same g p.task_count ks (omega arith), same.cells, same.tasks)

  pub known_same : (g h : ℕ) → known p g h ≡ known q g h
  unfolding known
  known_same g zero = refl
  known_same g (suc zero) = know_voted-same g p.cells none_known ∙ rw same.cells
  known_same g (suc (suc h)) = know_frame-same _ _ ∙ rw (known_same g (suc h), same.frames)

  -- ---- the recovery period

  pub all_known-same : (h : ℕ) → all_known p h ≡ all_known q h
  unfolding all_known
  all_known-same h = simp known_same (rw (same.cells, same.frames))

  period_to-same : (k : ℕ) → period_to p k ≡ period_to q k
  unfolding period_to
  period_to-same zero = refl
  period_to-same (suc k) = rw (period_to-same k, all_known-same (suc k))

  pub period-same : period p ≡ period q
  unfolding period
  period-same = period_to-same _ ∙ rw (same.frames, same.cells)
