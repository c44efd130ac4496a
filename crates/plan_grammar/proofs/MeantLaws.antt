-- The record that a text's first lines mean, and the task of a line.
use mathlib.Core.Path.{◌≡◌, refl, sym, ◌∙◌}
use mathlib.Core.Bool.{Bool, true, false, cond}
use mathlib.Core.List.{List, [], ◌∷◌}
use Prim.Native.Nat.{ℕ, zero, suc, ◌+◌, ◌*◌, ◌^◌, ◌≤◌, ◌<◌}
use native.Mathlib.Omega.{arith}
use native.Mathlib.Numerals.{add-one}
use lib.Dec.{eqb, leb}
use lib.ListN.{length, set, length-set, length-replicate}
use lib.Ieee.{Float, binary64, fits}
use lib.Ieee.Bits.{is_true, of_bits-fits, to_bits-of_bits}
use borrow.Author.Tests.{eqb-true, eqb-false, leb-true}
use Rattle.array.proofs.TestLaws.{split, clash, and_left, and_right, and_both, and-false-left, and-false-right}
use Rattle.pattern.specs.Pattern.{value_of, pattern_of}
use Rattle.pattern.specs.Constant.{is_finite, finite_unsigned}
use Rattle.pattern.proofs.ConstantLaws.{finite-no-nan, finite-of-unsigned}
use Rattle.plan.specs.declared.Task.{Task}
use Rattle.plan.specs.declared.Plan.{Plan}
use Rattle.plan.specs.Limits.{most_frames, most_cells, most_tasks, most_actuators}
use Rattle.plan.specs.Tables.{unused_task, vote_place}
use Rattle.plan.specs.Accepted.{header_ok, constants_ok, op_ok, task_ok, op_storable, storable, well_formed, accepted}
use Rattle.plan_grammar.specs.Line.{line_at, kind_of, second, third, fifth, is_task, cell_kind, take_kind, cam_kind, vote_kind, actuator_kind}
use Rattle.plan_grammar.specs.Meant.{zero_plan, op_of, task_of, header_with, initial_with, count_with, tasks_with, voted_with, actuators_with, with_line, plan_to}
use Rattle.plan_grammar.specs.Written.{op_line, task_line}
use Rattle.plan_grammar.specs.Refused.{task_zeros}

-- 7 refuses the record that stands beside a refusal
pub zero-refused : accepted zero_plan ≡ false
unfolding accepted well_formed header_ok
zero-refused = and-false-left _ (and-false-right (storable zero_plan) refl)

-- ---- a field after a line

if-length : {A : Type 0} (b : Bool) (x y : List A) → length x ≡ length y → length (cond b x y) ≡ length y
if-length true x y e = e
if-length false x y e = refl

pub initial_with-length : (l initial : List ℕ) → length (initial_with l initial) ≡ length initial
unfolding initial_with
initial_with-length l initial = if-length (eqb (kind_of l) cell_kind) _ _ (length-set initial (second l) (fifth l))

pub tasks_with-length : (l : List ℕ) (count : ℕ) (tasks : List Task) → length (tasks_with l count tasks) ≡ length tasks
unfolding tasks_with
tasks_with-length l count tasks = if-length (is_task (kind_of l)) _ _ (length-set tasks count (task_of l))

pub voted_with-length : (l : List ℕ) (voted : List Bool) → length (voted_with l voted) ≡ length voted
unfolding voted_with
voted_with-length l voted = if-length (eqb (kind_of l) vote_kind) _ _ (length-set voted (vote_place (second l) (third l)) true)

pub actuators_with-length : (l cells : List ℕ) → length (actuators_with l cells) ≡ length cells
unfolding actuators_with
actuators_with-length l cells = if-length (eqb (kind_of l) actuator_kind) _ _ (length-set cells (second l) (third l))

pub count_with-most : (l : List ℕ) (count : ℕ) → count_with l count ≤ count + 1
unfolding count_with
count_with-most l count = split (is_task (kind_of l)) (λ t. rw t (omega arith)) (λ t. rw t (omega arith))

-- ---- what the first lines say

module _ (s : List ℕ) where
  pub plan_to-start : plan_to s 0 ≡ zero_plan
  unfolding plan_to
  plan_to-start = refl

  pub plan_to-more : (i : ℕ) → plan_to s (i + 1) ≡ with_line (line_at s i) (plan_to s i)
  unfolding plan_to
  plan_to-more i = rw (add-one i)

  pub plan_to-initial : (i : ℕ) → length (plan_to s i).initial ≡ most_cells
  unfolding plan_to with_line
  plan_to-initial zero = length-replicate {A = ℕ} most_cells 0
  plan_to-initial (suc i) = initial_with-length (line_at s i) (plan_to s i).initial ∙ plan_to-initial i

  pub plan_to-tasks : (i : ℕ) → length (plan_to s i).tasks ≡ most_tasks
  unfolding plan_to with_line
  plan_to-tasks zero = length-replicate most_tasks unused_task
  plan_to-tasks (suc i) = tasks_with-length (line_at s i) (plan_to s i).task_count (plan_to s i).tasks ∙ plan_to-tasks i

  pub plan_to-voted : (i : ℕ) → length (plan_to s i).voted ≡ most_frames * most_cells
  unfolding plan_to with_line
  plan_to-voted zero = length-replicate (most_frames * most_cells) false
  plan_to-voted (suc i) = voted_with-length (line_at s i) (plan_to s i).voted ∙ plan_to-voted i

  pub plan_to-actuators : (i : ℕ) → length (plan_to s i).actuator_cell ≡ most_actuators
  unfolding plan_to with_line
  plan_to-actuators zero = length-replicate {A = ℕ} most_actuators 0
  plan_to-actuators (suc i) = actuators_with-length (line_at s i) (plan_to s i).actuator_cell ∙ plan_to-actuators i

  pub plan_to-count : (i : ℕ) → (plan_to s i).task_count ≤ i
  unfolding plan_to with_line
  plan_to-count zero = omega arith
  plan_to-count (suc i) = omega (arith, count_with-most (line_at s i) (plan_to s i).task_count, plan_to-count i)

-- ---- constants

-- the pattern of a finite value is the one that was read
pub pattern-of-value : (x : ℕ) → x < 2 ^ 64 → is_finite (value_of x) ≡ true → pattern_of (value_of x) ≡ x
pattern-of-value x l f = to_bits-of_bits binary64 x l (finite-no-nan (value_of x) f)

pub finite-unsigned : (x : Float) → finite_unsigned x ≡ true → is_finite x ≡ true
finite-unsigned x u = split (is_finite x) (λ t. t) (λ t. absurd (clash u (sym (finite-of-unsigned x t))))

value-fits : (x : ℕ) → fits binary64 (value_of x) ≡ true
value-fits x = is_true (fits binary64 (value_of x)) (of_bits-fits binary64 x)

-- ---- the task of a line

-- the seven kinds, and what each says
module _ (X : ℕ → Type 0) (ten : X 10) (eleven : X 11) (twelve : X 12) (thirteen : X 13) (fourteen : X 14) (fifteen : X 15) (sixteen : X 16) where
  pub by_kind : (k : ℕ) → is_task k ≡ true → X k
  unfolding is_task
  by_kind k t =
      let low : take_kind ≤ k = leb-true take_kind k (and_left (leb take_kind k) (leb k cam_kind) t) in
      let high : k ≤ cam_kind = leb-true k cam_kind (and_right (leb take_kind k) (leb k cam_kind) t) in
      split (eqb k 10) (λ e. rw (eqb-true k 10 e) ten)
      (λ e. let n10 = eqb-false k 10 e in
      split (eqb k 11) (λ e. rw (eqb-true k 11 e) eleven)
      (λ e. let n11 = eqb-false k 11 e in
      split (eqb k 12) (λ e. rw (eqb-true k 12 e) twelve)
      (λ e. let n12 = eqb-false k 12 e in
      split (eqb k 13) (λ e. rw (eqb-true k 13 e) thirteen)
      (λ e. let n13 = eqb-false k 13 e in
      split (eqb k 14) (λ e. rw (eqb-true k 14 e) fourteen)
      (λ e. let n14 = eqb-false k 14 e in
      split (eqb k 15) (λ e. rw (eqb-true k 15 e) fifteen)
      (λ e. let n15 = eqb-false k 15 e in
      let e16 : k ≡ 16 = omega arith in rw e16 sixteen))))))

-- a task line in range is written as it was read
module _ (frames cells sensors f c a b d : ℕ) (lb : b < 2 ^ 64) (ld : d < 2 ^ 64) where
  abbrev Back : ℕ → Type 0
  Back k =
      task_ok frames cells sensors (task_of (k ∷ f ∷ c ∷ a ∷ b ∷ d ∷ [])) ≡ true → task_zeros (k ∷ f ∷ c ∷ a ∷ b ∷ d ∷ []) ≡ true →
      task_line (task_of (k ∷ f ∷ c ∷ a ∷ b ∷ d ∷ [])) ≡ k ∷ f ∷ c ∷ a ∷ b ∷ d ∷ []

  back-take : Back 10
  unfolding task_of op_of task_zeros task_line op_line
  back-take o z =
      let eb : b ≡ 0 = eqb-true b 0 (and_left (eqb b 0) (eqb d 0) z) in
      let ed : d ≡ 0 = eqb-true d 0 (and_right (eqb b 0) (eqb d 0) z) in
      rw (eb, ed)

  back_sum : Back 11
  unfolding task_of op_of task_zeros task_line op_line
  back_sum o z = let ed : d ≡ 0 = eqb-true d 0 z in rw ed

  back-diff : Back 12
  unfolding task_of op_of task_zeros task_line op_line
  back-diff o z = let ed : d ≡ 0 = eqb-true d 0 z in rw ed

  constants-of-ok : (k : ℕ) → task_ok frames cells sensors (task_of (k ∷ f ∷ c ∷ a ∷ b ∷ d ∷ [])) ≡ true → constants_ok sensors (op_of (k ∷ f ∷ c ∷ a ∷ b ∷ d ∷ [])) ≡ true
  unfolding task_ok op_ok task_of
  constants-of-ok k o = search (and_left, and_right)

  back-scale : Back 13
  unfolding task_of op_of constants_ok task_zeros task_line op_line
  back-scale o z =
      let ed : d ≡ 0 = eqb-true d 0 z in
      rw (ed, pattern-of-value b lb (constants-of-ok 13 o))

  back-limit : Back 14
  unfolding task_of op_of constants_ok task_zeros task_line op_line
  back-limit o z =
      let r = constants-of-ok 14 o in
      let fb : is_finite (value_of b) ≡ true = search (and_left, and_right) in
      let fd : is_finite (value_of d) ≡ true = search (and_left, and_right) in
      rw (pattern-of-value b lb fb, pattern-of-value d ld fd)

  back-wind : Back 15
  unfolding task_of op_of constants_ok task_zeros task_line op_line
  back-wind o z =
      let r = constants-of-ok 15 o in
      let fb : is_finite (value_of b) ≡ true = and_left (is_finite (value_of b)) (finite_unsigned (value_of d)) r in
      let fd : is_finite (value_of d) ≡ true = finite-unsigned (value_of d) (and_right (is_finite (value_of b)) (finite_unsigned (value_of d)) r) in
      rw (pattern-of-value b lb fb, pattern-of-value d ld fd)

  back-cam : Back 16
  unfolding task_of op_of task_zeros task_line op_line
  back-cam o z =
      let eb : b ≡ 0 = eqb-true b 0 (and_left (eqb b 0) (eqb d 0) z) in
      let ed : d ≡ 0 = eqb-true d 0 (and_right (eqb b 0) (eqb d 0) z) in
      rw (eb, ed)

  pub task-line : (k : ℕ) → is_task k ≡ true → Back k
  task-line = by_kind Back back-take back_sum back-diff back-scale back-limit back-wind back-cam

-- its constants are of binary64
module _ (f c a b d : ℕ) where
  abbrev Kept : ℕ → Type 0
  Kept k = op_storable (op_of (k ∷ f ∷ c ∷ a ∷ b ∷ d ∷ [])) ≡ true

  pub op-storable : (k : ℕ) → is_task k ≡ true → op_storable (op_of (k ∷ f ∷ c ∷ a ∷ b ∷ d ∷ [])) ≡ true
  unfolding op_storable op_of
  op-storable k t =
      by_kind Kept refl refl refl (value-fits b) (and_both (value-fits b) (value-fits d)) (and_both (value-fits b) (value-fits d)) refl k t

-- ---- a record with one entry more

-- the header of p, with other entries
abbrev pub with_parts : Plan → List ℕ → ℕ → List Task → List Bool → List ℕ → Plan
with_parts p initial count tasks voted table =
    record {
      nodes = p.nodes;
      frames = p.frames;
      cells = p.cells;
      sensors = p.sensors;
      actuators = p.actuators;
      initial = initial;
      task_count = count;
      tasks = tasks;
      voted = voted;
      actuator_cell = table;
    }

abbrev pub with_cell : ℕ → ℕ → Plan → Plan
with_cell c v p = with_parts p (set p.initial c v) p.task_count p.tasks p.voted p.actuator_cell

abbrev pub with_task : Task → Plan → Plan
with_task t p = with_parts p p.initial (p.task_count + 1) (set p.tasks p.task_count t) p.voted p.actuator_cell

abbrev pub with_vote : ℕ → Plan → Plan
with_vote e p = with_parts p p.initial p.task_count p.tasks (set p.voted e true) p.actuator_cell

abbrev pub with_actuator : ℕ → ℕ → Plan → Plan
with_actuator i c p = with_parts p p.initial p.task_count p.tasks p.voted (set p.actuator_cell i c)

module _ (p : Plan) (f c a b d : ℕ) where
  pub with-header :
      with_line (0 ∷ f ∷ c ∷ a ∷ b ∷ d ∷ []) p
      ≡ record {
        nodes = f;
        frames = c;
        cells = a;
        sensors = b;
        actuators = d;
        initial = p.initial;
        task_count = p.task_count;
        tasks = p.tasks;
        voted = p.voted;
        actuator_cell = p.actuator_cell;
      }
  unfolding with_line header_with initial_with count_with tasks_with voted_with actuators_with is_task
  with-header = refl

  pub with_cell_lem : with_line (1 ∷ f ∷ c ∷ a ∷ b ∷ d ∷ []) p ≡ with_cell f b p
  unfolding with_line header_with initial_with count_with tasks_with voted_with actuators_with is_task
  with_cell_lem = refl

  pub with-task : (k : ℕ) → is_task k ≡ true → with_line (k ∷ f ∷ c ∷ a ∷ b ∷ d ∷ []) p ≡ with_task (task_of (k ∷ f ∷ c ∷ a ∷ b ∷ d ∷ [])) p
  unfolding with_line header_with initial_with count_with tasks_with voted_with actuators_with is_task
  with-task k t =
      by_kind (λ n. with_line (n ∷ f ∷ c ∷ a ∷ b ∷ d ∷ []) p ≡ with_task (task_of (n ∷ f ∷ c ∷ a ∷ b ∷ d ∷ [])) p)
      refl refl refl refl refl refl refl k t

  pub with-vote : with_line (20 ∷ f ∷ c ∷ a ∷ b ∷ d ∷ []) p ≡ with_vote (vote_place f c) p
  unfolding with_line header_with initial_with count_with tasks_with voted_with actuators_with is_task
  with-vote = refl

  pub with-actuator : with_line (30 ∷ f ∷ c ∷ a ∷ b ∷ d ∷ []) p ≡ with_actuator f c p
  unfolding with_line header_with initial_with count_with tasks_with voted_with actuators_with is_task
  with-actuator = refl
