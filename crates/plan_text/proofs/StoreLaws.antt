-- The stores of a line give the record with its entry.
use mathlib.Core.Path.{◌≡◌, refl, sym}
use mathlib.Core.Bool.{Bool, true, false}
use mathlib.Core.List.{List, [], ◌∷◌}
use Prim.Native.Nat.{ℕ, ◌+◌}
use lib.Dec.{eqb, leb}
use lib.ListN.{set}
use borrow.Author.Tests.{eqb-true}
use Rattle.array.proofs.TestLaws.{split, clash, and_left, and_right}
use Rattle.plan.specs.declared.Task.{Task}
use Rattle.plan.specs.declared.Plan.{Plan}
use Rattle.plan_grammar.specs.Line.{kind_of, second, third, fourth, fifth, sixth, is_task, header_kind}
use Rattle.plan_grammar.specs.Meant.{zero_plan, task_of, header_with, initial_with, count_with, tasks_with, voted_with, actuators_with, with_line}
use Rattle.plan_grammar.specs.Refused.{is_header, in_order}
use Rattle.plan_grammar.proofs.MeantLaws.{with-header}

-- no line after the first is a header
pub later-kind : (h : List ℕ) (j : ℕ) (prev l : List ℕ) → in_order h j prev l ≡ true → eqb (kind_of l) header_kind ≡ false
unfolding in_order is_task
later-kind h j prev l o =
    split (eqb (kind_of l) header_kind)
    (λ t. absurd (clash (and_right (leb (fourth h) j) false (rw (eqb-true (kind_of l) header_kind t) at o)) refl))
    (λ t. t)

-- ---- the record with the header's numbers

pub header-stored :
    (k b c d e f : ℕ) (z : Plan) →
    is_header (k ∷ b ∷ c ∷ d ∷ e ∷ f ∷ []) ≡ true →
    z ≡ zero_plan →
    record {
      nodes = b;
      frames = c;
      cells = d;
      sensors = e;
      actuators = f;
      initial = z.initial;
      task_count = z.task_count;
      tasks = z.tasks;
      voted = z.voted;
      actuator_cell = z.actuator_cell;
    } ≡ with_line (k ∷ b ∷ c ∷ d ∷ e ∷ f ∷ []) zero_plan
unfolding is_header
header-stored k b c d e f z t q =
    let zero : k ≡ 0 = eqb-true k 0 (and_left (eqb k 0) _ t) in
    rw (zero, q) (sym (with-header zero_plan b c d e f))

-- ---- the record with the entry of a line after the first

module _ (p : Plan) (l : List ℕ) (k : eqb (kind_of l) header_kind ≡ false) where
  kept : (number old : ℕ) → old ≡ header_with l number old
  unfolding header_with
  kept number old = sym (rw k)

  line-stored :
      {initial cells : List ℕ} {count : ℕ} {tasks : List Task} {voted : List Bool} →
      initial ≡ initial_with l p.initial →
      voted ≡ voted_with l p.voted →
      cells ≡ actuators_with l p.actuator_cell →
      count ≡ count_with l p.task_count →
      tasks ≡ tasks_with l p.task_count p.tasks →
      record {
        nodes = p.nodes;
        frames = p.frames;
        cells = p.cells;
        sensors = p.sensors;
        actuators = p.actuators;
        initial = initial;
        task_count = count;
        tasks = tasks;
        voted = voted;
        actuator_cell = cells;
      } ≡ with_line l p
  unfolding with_line
  line-stored e₁ e₂ e₃ e₄ e₅ =
      let n = kept (second l) p.nodes in
      let f = kept (third l) p.frames in
      let c = kept (fourth l) p.cells in
      let s = kept (fifth l) p.sensors in
      let a = kept (sixth l) p.actuators in
      λ i.
      record {
        nodes = n i;
        frames = f i;
        cells = c i;
        sensors = s i;
        actuators = a i;
        initial = e₁ i;
        task_count = e₄ i;
        tasks = e₅ i;
        voted = e₂ i;
        actuator_cell = e₃ i;
      }

  module _
      {initial cells : List ℕ} {voted : List Bool}
      (e₁ : initial ≡ initial_with l p.initial)
      (e₂ : voted ≡ voted_with l p.voted)
      (e₃ : cells ≡ actuators_with l p.actuator_cell) where
    -- of a task
    pub task-stored :
        {tasks : List Task} →
        is_task (kind_of l) ≡ true →
        tasks ≡ set p.tasks p.task_count (task_of l) →
        record {
          nodes = p.nodes;
          frames = p.frames;
          cells = p.cells;
          sensors = p.sensors;
          actuators = p.actuators;
          initial = initial;
          task_count = p.task_count + 1;
          tasks = tasks;
          voted = voted;
          actuator_cell = cells;
        } ≡ with_line l p
    unfolding count_with tasks_with
    task-stored t e₅ = line-stored e₁ e₂ e₃ (sym (rw t)) (rw t e₅)

    -- of another
    pub other-stored :
        is_task (kind_of l) ≡ false →
        record {
          nodes = p.nodes;
          frames = p.frames;
          cells = p.cells;
          sensors = p.sensors;
          actuators = p.actuators;
          initial = initial;
          task_count = p.task_count;
          tasks = p.tasks;
          voted = voted;
          actuator_cell = cells;
        } ≡ with_line l p
    unfolding count_with tasks_with
    other-stored t = line-stored e₁ e₂ e₃ (sym (rw t)) (sym (rw t))

-- the record with another count of tasks
abbrev pub counted : ℕ → Plan → Plan
counted n p =
    record {
      nodes = p.nodes;
      frames = p.frames;
      cells = p.cells;
      sensors = p.sensors;
      actuators = p.actuators;
      initial = p.initial;
      task_count = n;
      tasks = p.tasks;
      voted = p.voted;
      actuator_cell = p.actuator_cell;
    }
