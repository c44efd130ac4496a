-- Laws for putting a plan into words: six numbers stored, entries stored one by one, parts laid behind each other.
use mathlib.Core.Path.{◌≡◌, refl, sym, ap, ◌∙◌}
use mathlib.Core.Bool.{false}
use mathlib.Core.List.{List, [], ◌∷◌, ◌++◌, append_assoc, append-nil}
use Prim.Native.Nat.{ℕ, ◌+◌, ◌-◌, ◌*◌, ◌≤◌, ◌<◌}
use native.Mathlib.Omega.{arith}
use native.Mathlib.Nat.{zero-add}
use lib.ListN.{length, get_or, set, length-append, drop_of_length-le}
use lib.Seq.{sets-eq}
use borrow.Rule.Slice.PartMut.{put_mid}
use Rattle.array.specs.Index.{fill, joined, from}
use Rattle.array.proofs.PlacedLaws.{placed-next, part-back}
use Rattle.array.proofs.PlacesLaws.{fill-length, fill_is, joined-none, joined-more, joined_length, joined-holds, holds-entry, from-length, from_at, from-held}
use Rattle.column.proofs.BufferLaws.{Laid, laid_none}
use Rattle.plan.specs.declared.Op.{Op}
use Rattle.plan.specs.declared.Op.TheVariants.{Take, Sum, Diff, Scale, Limit, Wind, Cam}
use Rattle.plan.specs.declared.Task.{Task}
use Rattle.plan.specs.declared.Plan.{Plan}
use Rattle.plan.specs.Limits.{most_frames, most_cells, most_tasks, most_actuators}
use Rattle.plan.specs.Tables.{task_at, vote_place, voted_in}
use Rattle.plan.proofs.AcceptedLaws.{Shape}
use Rattle.plan_grammar.specs.Written.{op_line, task_line}
use Rattle.plan_words.specs.Words.{task_size, plan_size, number_of_bits, vote_word, plan_words}

pub stored-six : (l : List ℕ) (a b c d e f : ℕ) → length l ≡ 6 → set (set (set (set (set (set l 0 a) 1 b) 2 c) 3 d) 4 e) 5 f ≡ a ∷ b ∷ c ∷ d ∷ e ∷ f ∷ []
stored-six l a b c d e f h =
    sets-eq (a ∷ b ∷ c ∷ d ∷ e ∷ f ∷ []) l 0 (omega arith) ∙ rw (drop_of_length-le l {i = 6} (omega arith))

-- a loop that stores keeps the length
pub filled-length : (f : ℕ → ℕ) (k : ℕ) (l : List ℕ) {now : List ℕ} → now ≡ fill f k l → length now ≡ length l
filled-length f k l e = ap length e ∙ fill-length f k l

-- ---- a list's own entries

-- copied one by one
pub fill-own : (v : List ℕ) (n : ℕ) (l : List ℕ) → length l ≡ n → fill (λ i. get_or v i 0) n l ≡ from 0 v 0 n
fill-own v n l e =
    fill_is (λ i. get_or v i 0) n l (from 0 v 0 n) 0 e (from-length 0 v 0 n) (λ i k. sym (from_at 0 v 0 n i k ∙ rw zero-add))

-- all of them are the list
pub from_all : (v : List ℕ) (n : ℕ) → length v ≡ n → from 0 v 0 n ≡ v
from_all v n e = from-held 0 n e (record { front = []; back = []; whole = sym (append-nil v); size = refl })

-- ---- a number for each index

-- the list of w 0, w 1, .. is as long as its indices are many, and has w i at place i
module _ (w : ℕ → ℕ) (n : ℕ) where
  pub each-length : length (joined (λ i. w i ∷ []) n) ≡ n
  each-length = joined_length (λ i. w i ∷ []) 1 (λ i. refl) n ∙ omega arith

  each_at : (i : ℕ) → i < n → get_or (joined (λ i. w i ∷ []) n) i 0 ≡ w i
  each_at i l =
      let z : i * 1 ≡ i = omega arith in
      rw z at (holds-entry 0 (joined-holds (λ i. w i ∷ []) 1 (λ i. refl) n i l))

  pub fill-each : (l : List ℕ) → length l ≡ n → fill w n l ≡ joined (λ i. w i ∷ []) n
  fill-each l e = fill_is w n l (joined (λ i. w i ∷ []) n) 0 e each-length (λ i k. sym (each_at i k))

-- ---- the numbers of tasks

op-size : (f c : ℕ) (o : Op) → length (op_line f c o) ≡ task_size
unfolding op_line
op-size f c (Take s) = refl
op-size f c (Sum a b) = refl
op-size f c (Diff a b) = refl
op-size f c (Scale a factor) = refl
op-size f c (Limit a low high) = refl
op-size f c (Wind a law) = refl
op-size f c (Cam a) = refl

pub task-size : (t : Task) → length (task_line t) ≡ task_size
unfolding task_line
task-size t = op-size t.frame t.target t.op

-- ---- parts lent one after another, from the buffer's start

module _ {s : List ℕ} {n : ℕ} {t xs : List ℕ} (h : Laid s 0 n t xs) where
  pub laid-part :
      (ys u : List ℕ) (a b w : ℕ) → a ≡ n → b ≡ a + w → b ≤ length s → ys ≡ u → length u ≡ w → Laid s 0 (n + w) (t ++ u) (put_mid a (b - a) xs ys)
  laid-part ys u a b w e f g p k =
      record {
        holds =
            part-back xs u ys a (b - a) p (k ∙ omega arith)
            ∙ placed-next s 0 t xs u a h.holds (omega (arith, h.bytes)) (omega arith);
        bytes = length-append t u ∙ rw (h.bytes, k);
      }

  -- the last part ends where the buffer does
  pub laid-whole : length s ≡ n → xs ≡ t
  laid-whole e =
      let end : 0 + length t ≡ n = omega (arith, h.bytes) in
      h.holds ∙ rw (end, drop_of_length-le s {i = n} (omega arith)) (append-nil t)

-- a part of six numbers for each index
module _ (f : ℕ → List ℕ) (size : (k : ℕ) → length (f k) ≡ task_size) {s : List ℕ} where
  pub six-none : Laid s 0 (task_size * 0) (joined f 0) s
  six-none = rw joined-none (laid_none s 0)

  pub six-more :
      {k : ℕ} {xs : List ℕ} → Laid s 0 (task_size * k) (joined f k) xs → (ys : List ℕ) (a b : ℕ) → a ≡ task_size * k → b ≡ a + task_size → b ≤ length s → ys ≡ f k
      → Laid s 0 (task_size * (k + 1)) (joined f (k + 1)) (put_mid a (b - a) xs ys)
  six-more {k} {xs} h ys a b e g l p =
      let end : task_size * k + task_size ≡ task_size * (k + 1) = omega arith in
      rw (← end, joined-more f k) (laid-part h ys (f k) a b task_size e g l p (size k))

-- ---- the words of a plan

abbrev pub counts_of : Plan → List ℕ
counts_of p = p.nodes ∷ p.frames ∷ p.cells ∷ p.sensors ∷ p.actuators ∷ p.task_count ∷ []

abbrev pub tasks_of : Plan → List ℕ
tasks_of p = joined (λ k. task_line (task_at p k)) most_tasks

abbrev pub votes_of : Plan → List ℕ
votes_of p = joined (λ g. vote_word p g ∷ []) most_frames

pub task-words-length : (p : Plan) → length (tasks_of p) ≡ task_size * most_tasks
task-words-length p = joined_length (λ k. task_line (task_at p k)) task_size (λ k. task-size (task_at p k)) most_tasks

pub vote-words-length : (p : Plan) → length (votes_of p) ≡ most_frames
vote-words-length p = each-length (vote_word p) most_frames

module _ (p : Plan) (h : Shape p) (s : List ℕ) (e : length s ≡ plan_size) where
  pub plan-put :
      (a b c d f : List ℕ) → a ≡ counts_of p → b ≡ p.initial → c ≡ tasks_of p
      → d ≡ joined (λ g. number_of_bits (λ c. get_or p.voted (vote_place g c) false) most_cells ∷ []) most_frames → f ≡ from 0 p.actuator_cell 0 most_actuators
      → put_mid 438 8 (put_mid 422 16 (put_mid 38 384 (put_mid 6 32 (put_mid 0 6 s a) b) c) d) f ≡ plan_words p
  unfolding plan_words vote_word voted_in
  plan-put a b c d f ha hb hc hd hf =
      let l0 = laid_none s 0 in
      let l1 = laid-part l0 a (counts_of p) 0 6 6 refl refl (omega arith) ha refl in
      let l2 = laid-part l1 b p.initial 6 38 32 refl refl (omega arith) hb h.initial-length in
      let l3 = laid-part l2 c (tasks_of p) 38 422 384 refl refl (omega arith) hc (task-words-length p) in
      let l4 = laid-part l3 d (votes_of p) 422 438 16 refl refl (omega arith) hd (vote-words-length p) in
      let l5 = laid-part l4 f p.actuator_cell 438 446 8 refl refl (omega arith) (hf ∙ from_all p.actuator_cell most_actuators h.actuator-length) h.actuator-length in
      laid-whole l5 e ∙ simp append_assoc
