-- The parts of a record of which a text's first lines have told: what `well_formed` says of each, up to a count.
use mathlib.Core.Path.{◌≡◌, ◌∙◌}
use mathlib.Core.Bool.{Bool, true, false}
use mathlib.Core.List.{List}
use Prim.Native.Nat.{ℕ, suc, ◌*◌, ◌/◌, ◌%◌, ◌^◌, ◌≤◌, ◌<◌}
use native.Mathlib.Omega.{arith}
use native.Mathlib.Nat.{not-suc-le-zero}
use lib.Dec.{eqb, ltb, lit<}
use lib.ListN.{length, get_or, set, replicate, length-set, length-replicate, get_or-replicate, get_or-eq_default}
use lib.Seq.{get_or-set_same, get_or-set_other}
use borrow.Author.Tests.{ltb-true, ltb-false, eqb-true, eqb-false}
use Rattle.array.proofs.TestLaws.{split, clash}
use Rattle.plan.specs.declared.Task.{Task}
use Rattle.plan.specs.Limits.{most_frames, most_cells, most_tasks, most_actuators}
use Rattle.plan.specs.Tables.{unused_task}
use Rattle.plan.specs.Accepted.{task_ok, op_storable}

-- ---- one entry more

-- an entry of a list in which one was set: that one, or an old one
pub after-set :
    {A : Type 0} (X : A → Type 0) (l : List A) (n : ℕ) (v d : A) (i : ℕ) → n < length l → (i ≡ n → X v) → ((i ≡ n → ⊥) → X (get_or l i d)) → X (get_or (set l n v) i d)
after-set X l n v d i k f g =
    split (eqb i n)
    (λ t. let e : i ≡ n = eqb-true i n t in rw (e, get_or-set_same l n v d k) (f e))
    (λ t. let e = eqb-false i n t in rw (get_or-set_other l n i v d e) (g e))

-- the default from a place on
pub nothing_yet : {A : Type 0} (n i : ℕ) (a : A) → get_or (replicate n a) i a ≡ a
nothing_yet n i a =
    split (ltb i n) (λ t. get_or-replicate n i a a (ltb-true i n t))
    (λ t. get_or-eq_default (replicate n a) a {n = i} (omega (arith, ltb-false i n t, length-replicate n a)))

-- ---- the initial values: those of the first c cells

pub record Cells (initial : List ℕ) (c : ℕ) : Type 0 where
  pub size : length initial ≡ most_cells
  pub small : (i : ℕ) → get_or initial i 0 < 2 ^ 64
  pub rest : (i : ℕ) → c ≤ i → get_or initial i 0 ≡ 0

pub cells-none : Cells (replicate most_cells 0) 0
cells-none =
    record {
      size = length-replicate {A = ℕ} most_cells 0;
      small = λ i. rw (nothing_yet {A = ℕ} most_cells i 0) (lit< tt);
      rest = λ i l. nothing_yet {A = ℕ} most_cells i 0;
    }

pub cells-more : (initial : List ℕ) (c v : ℕ) → Cells initial c → v < 2 ^ 64 → c < most_cells → Cells (set initial c v) (suc c)
cells-more initial c v h l m =
    record {
      size = length-set initial c v ∙ h.size;
      small = λ i. after-set (λ x. x < 2 ^ 64) initial c v 0 i (omega (arith, h.size)) (λ e. l) (λ e. h.small i);
      rest = λ i k. get_or-set_other initial c i v 0 (omega arith) ∙ h.rest i (omega arith);
    }

-- ---- the first t tasks

pub record Tasks (frames cells sensors : ℕ) (tasks : List Task) (t : ℕ) : Type 0 where
  pub size : length tasks ≡ most_tasks
  pub few : t ≤ most_tasks
  pub ok : (k : ℕ) → k < t → task_ok frames cells sensors (get_or tasks k unused_task) ≡ true
  pub storable : (k : ℕ) → k < t → op_storable (get_or tasks k unused_task).op ≡ true
  pub order : (k : ℕ) → suc k < t → (get_or tasks k unused_task).frame ≤ (get_or tasks (suc k) unused_task).frame
  pub rest : (k : ℕ) → t ≤ k → get_or tasks k unused_task ≡ unused_task

module _ (frames cells sensors : ℕ) where
  pub tasks-none : Tasks frames cells sensors (replicate most_tasks unused_task) 0
  tasks-none =
      record {
        size = length-replicate most_tasks unused_task;
        few = omega arith;
        ok = λ k l. absurd (not-suc-le-zero l);
        storable = λ k l. absurd (not-suc-le-zero l);
        order = λ k l. absurd (not-suc-le-zero l);
        rest = λ k l. nothing_yet most_tasks k unused_task;
      }

  pub tasks-more :
      (tasks : List Task) (t : ℕ) (x : Task) → Tasks frames cells sensors tasks t → t < most_tasks → task_ok frames cells sensors x ≡ true → op_storable x.op ≡ true
      → ((k : ℕ) → suc k ≡ t → (get_or tasks k unused_task).frame ≤ x.frame) → Tasks frames cells sensors (set tasks t x) (suc t)
  tasks-more tasks t x h m o s f =
      let n : t < length tasks = omega (arith, h.size) in
      record {
        size = length-set tasks t x ∙ h.size;
        few = m;
        ok = λ k l. after-set (λ y. task_ok frames cells sensors y ≡ true) tasks t x unused_task k n (λ e. o) (λ e. h.ok k (omega arith));
        storable = λ k l. after-set (λ y. op_storable y.op ≡ true) tasks t x unused_task k n (λ e. s) (λ e. h.storable k (omega arith));
        order = λ k l.
            rw (get_or-set_other tasks t k x unused_task (omega arith))
            (after-set (λ y. (get_or tasks k unused_task).frame ≤ y.frame) tasks t x unused_task (suc k) n (f k) (λ e. h.order k (omega arith)));
        rest = λ k l. get_or-set_other tasks t k x unused_task (omega arith) ∙ h.rest k (omega arith);
      }

-- ---- the votes of the entries below e

pub record Votes (frames cells : ℕ) (voted : List Bool) (e : ℕ) : Type 0 where
  pub size : length voted ≡ most_frames * most_cells
  pub few : e ≤ most_frames * most_cells
  pub ok : (x : ℕ) → get_or voted x false ≡ true → (x / most_cells < frames) × (x % most_cells < cells)
  pub rest : (x : ℕ) → e ≤ x → get_or voted x false ≡ false

module _ (frames cells : ℕ) where
  pub votes-none : Votes frames cells (replicate (most_frames * most_cells) false) 0
  votes-none =
      record {
        size = length-replicate (most_frames * most_cells) false;
        few = omega arith;
        ok = λ x v. absurd (clash v (nothing_yet (most_frames * most_cells) x false));
        rest = λ x l. nothing_yet (most_frames * most_cells) x false;
      }

  pub votes-more :
      (voted : List Bool) (e n : ℕ) → Votes frames cells voted e → e ≤ n → n < most_frames * most_cells → n / most_cells < frames → n % most_cells < cells
      → Votes frames cells (set voted n true) (suc n)
  votes-more voted e n h l m f c =
      let k : n < length voted = omega (arith, h.size) in
      record {
        size = length-set voted n true ∙ h.size;
        few = m;
        ok = λ x. after-set (λ b. b ≡ true → (x / most_cells < frames) × (x % most_cells < cells)) voted n true false x k (λ z v. rw z (f, c)) (λ z. h.ok x);
        rest = λ x j. get_or-set_other voted n x true false (omega arith) ∙ h.rest x (omega arith);
      }

-- ---- the first a actuators

pub record Actuators (cells : ℕ) (table : List ℕ) (a : ℕ) : Type 0 where
  pub size : length table ≡ most_actuators
  pub ok : (i : ℕ) → i < a → get_or table i 0 < cells
  pub rest : (i : ℕ) → a ≤ i → get_or table i 0 ≡ 0

module _ (cells : ℕ) where
  pub actuators-none : Actuators cells (replicate most_actuators 0) 0
  actuators-none =
      record {
        size = length-replicate {A = ℕ} most_actuators 0;
        ok = λ i l. absurd (not-suc-le-zero l);
        rest = λ i l. nothing_yet {A = ℕ} most_actuators i 0;
      }

  pub actuators-more :
      (table : List ℕ) (a x : ℕ) → Actuators cells table a → a < most_actuators → x < cells → Actuators cells (set table a x) (suc a)
  actuators-more table a x h m l =
      record {
        size = length-set table a x ∙ h.size;
        ok = λ i k. after-set (λ y. y < cells) table a x 0 i (omega (arith, h.size)) (λ e. l) (λ e. h.ok i (omega arith));
        rest = λ i k. get_or-set_other table a i x 0 (omega arith) ∙ h.rest i (omega arith);
      }
