-- The words of a plan: an accepted plan is read back from its words, and words that mean an accepted plan are its words. So no others are accepted.
use mathlib.Core.Path.{◌≡◌, refl, sym, ap, subst, ◌∙◌}
use mathlib.Core.Bool.{true, false, ◌&&◌}
use mathlib.Core.List.{List, [], ◌∷◌, ◌++◌, append_assoc, append-nil}
use Prim.Native.Nat.{ℕ, zero, suc, ◌+◌, ◌*◌, ◌^◌, ◌<◌}
use native.Mathlib.Omega.{arith}
use native.Mathlib.Nat.{mul-zero, mul-suc}
use lib.Dec.{eqb, ltb}
use lib.ListN.{length, get_or, replicate, length-append, length-replicate}
use borrow.Author.Tests.{ltb-true, ltb-false, lt-ltb, eqb-true}
use Rattle.array.specs.Index.{all_below, all_in, joined, from}
use Rattle.array.specs.Bit.{bit}
use Rattle.array.proofs.TestLaws.{split, clash, and_left, and_right, and_both}
use Rattle.array.proofs.IndexLaws.{all_below-at, all_below-all}
use Rattle.array.proofs.PlacesLaws.{fill_is, Holds, holds-left, holds-right, holds-within, holds-entry, joined-holds, fill-in, from-held, from-add}
use Rattle.plan.specs.declared.Plan.{Plan}
use Rattle.plan.specs.Limits.{most_frames, most_cells, most_tasks, most_actuators}
use Rattle.plan.specs.Known.{reads}
use Rattle.plan.specs.Tables.{unused_task, task_at, vote_place, vote_frame, vote_cell, voted_in}
use Rattle.plan.specs.Accepted.{constants_ok, op_ok, task_ok, accepted}
use Rattle.plan.proofs.AcceptedLaws.{Shape, op-always, shape-of-accepted}
use Rattle.plan_grammar.specs.Line.{kind_of, is_task}
use Rattle.plan_grammar.specs.Meant.{task_of}
use Rattle.plan_grammar.specs.Refused.{task_zeros}
use Rattle.plan_grammar.specs.Written.{task_line}
use Rattle.plan_grammar.proofs.MeantLaws.{zero-refused, task-line}
use Rattle.plan_grammar.proofs.WrittenTextLaws.{TaskLine, task_line-is}
use Rattle.plan_words.specs.Words.{initial_at, tasks_at, task_size, votes_at, actuators_at, plan_size, vote_word, plan_words, task_in, vote_in, plan_in, task_words, vote_words, words_ok, plan_of_words}
use Rattle.plan_words.proofs.BitsLaws.{number_of_bits-small, number_of_bits-same, word-of-bits, bits-of-word}
use Rattle.plan_words.proofs.WordsReadLaws.{votes_in, vote-here, from-six, words-ok}
use Rattle.plan_words.proofs.WordsPutLaws.{task-size, counts_of, tasks_of, votes_of, from_all, task-words-length, vote-words-length}

-- ---- the words of an accepted plan

module _ (p : Plan) (h : Shape p) where
  words-length : length (plan_words p) ≡ plan_size
  unfolding plan_words
  words-length =
      let i = h.initial-length in
      let t = task-words-length p in
      let v = vote-words-length p in
      let a = h.actuator-length in
      simp length-append (omega arith)

  -- where the parts are
  initial-on : Holds (plan_words p) 6 (p.initial ++ (tasks_of p ++ (votes_of p ++ p.actuator_cell)))
  unfolding plan_words
  initial-on = record { front = counts_of p; back = []; whole = simp (append_assoc, append-nil); size = refl }

  tasks-on : Holds (plan_words p) tasks_at (tasks_of p ++ (votes_of p ++ p.actuator_cell))
  tasks-on = subst (λ (n : ℕ). Holds (plan_words p) (6 + n) (tasks_of p ++ (votes_of p ++ p.actuator_cell))) h.initial-length (holds-right p.initial _ initial-on)

  votes-on : Holds (plan_words p) votes_at (votes_of p ++ p.actuator_cell)
  votes-on = subst (λ (n : ℕ). Holds (plan_words p) (38 + n) (votes_of p ++ p.actuator_cell)) (task-words-length p) (holds-right (tasks_of p) _ tasks-on)

  actuators-held : Holds (plan_words p) actuators_at p.actuator_cell
  actuators-held = subst (λ (n : ℕ). Holds (plan_words p) (422 + n) p.actuator_cell) (vote-words-length p) (holds-right (votes_of p) _ votes-on)

  task-in : (k : ℕ) → k < most_tasks → task_in (plan_words p) k ≡ task_line (task_at p k)
  unfolding task_in
  task-in k l =
      let e : tasks_at + k * task_size ≡ tasks_at + task_size * k = omega arith in
      let line : ℕ → List ℕ = λ j. task_line (task_at p j) in
      from-held 0 task_size (task-size (task_at p k))
      (subst (λ (n : ℕ). Holds (plan_words p) n (task_line (task_at p k))) e
      (holds-within (holds-left (tasks_of p) _ tasks-on) (joined-holds line task_size (λ j. task-size (task_at p j)) most_tasks k l)))

  vote-in : (g : ℕ) → g < most_frames → vote_in (plan_words p) g ≡ vote_word p g
  unfolding vote_in
  vote-in g l =
      let e : votes_at + g * 1 ≡ votes_at + g = omega arith in
      rw e at
      (holds-entry 0
      (holds-within (holds-left (votes_of p) _ votes-on) (joined-holds (λ x. vote_word p x ∷ []) 1 (λ x. refl) most_frames g l)))

  -- the line of a task means the task
  line : (k : ℕ) → TaskLine (task_line (task_at p k)) (task_at p k)
  line k = task_line-is (task_at p k) (op-always p h k)

  -- they are a plan's words
  words-pass : words_ok (plan_words p) ≡ true
  unfolding task_words vote_words vote_word
  words-pass =
      words-ok (plan_words p) words-length
      (all_below-all (vote_words (plan_words p)) most_frames (λ g l. rw (vote-in g l) (lt-ltb _ (2 ^ most_cells) (number_of_bits-small (voted_in p g) most_cells))))
      (all_below-all (task_words (plan_words p)) most_tasks (λ k l. rw (task-in k l) (and_both (line k).kind (line k).zeros)))

  -- and mean the plan
  tasks-back : (plan_in (plan_words p)).tasks ≡ p.tasks
  unfolding plan_in
  tasks-back =
      fill_is (λ k. task_of (task_in (plan_words p) k)) most_tasks (replicate most_tasks unused_task) p.tasks unused_task (length-replicate most_tasks unused_task) h.tasks-length
      (λ k l. ap task_of (task-in k l) ∙ (line k).task)

  votes-back : (plan_in (plan_words p)).voted ≡ p.voted
  unfolding plan_in vote_word voted_in
  votes-back =
      fill_is (votes_in (plan_words p)) (most_frames * most_cells) (replicate (most_frames * most_cells) false) p.voted false (length-replicate (most_frames * most_cells) false) h.voted-length
      (λ e l.
      let z : vote_place (vote_frame e) (vote_cell e) ≡ e = omega arith in
      ap (λ (w : ℕ). bit w (vote_cell e)) (vote-in (vote_frame e) (omega arith))
      ∙ bits-of-word (voted_in p (vote_frame e)) most_cells (vote_cell e) (omega arith)
      ∙ ap (λ (n : ℕ). get_or p.voted n false) z)

  plan-back : plan_in (plan_words p) ≡ p
  unfolding plan_in plan_words
  plan-back = rw (from-held 0 most_cells h.initial-length (holds-left p.initial _ initial-on), tasks-back, votes-back, from-held 0 most_actuators h.actuator-length actuators-held)

-- ---- words that mean an accepted plan

-- a list's parts of one size, one after another
joined-from :
    (s : List ℕ) (at w : ℕ) (f : ℕ → List ℕ) (n : ℕ) → ((k : ℕ) → k < n → f k ≡ from 0 s (at + w * k) w) → joined f n ≡ from 0 s at (w * n)
unfolding joined from
joined-from s at w f zero e = rw mul-zero
joined-from s at w f (suc n) e =
    rw (joined-from s at w f n (λ k l. e k (omega arith)), e n (omega arith), mul-suc w n) (sym (from-add 0 s at (w * n) w))

from_one : (s : List ℕ) (at : ℕ) → from 0 s at 1 ≡ get_or s at 0 ∷ []
unfolding from
from_one s at = let z : at + 0 ≡ at = omega arith in rw z

all-parts :
    (ws : List ℕ) → from 0 ws 0 plan_size ≡ from 0 ws 0 6 ++ (from 0 ws initial_at most_cells ++ (from 0 ws tasks_at (task_size * most_tasks) ++ (from 0 ws votes_at most_frames ++ from 0 ws actuators_at most_actuators)))
all-parts ws = from-add 0 ws 0 6 440 ∙ rw (from-add 0 ws 6 32 408, from-add 0 ws 38 384 24, from-add 0 ws 422 16 8)

-- the six words of a task are its line
task-words-back :
    (frames cells sensors : ℕ) (s : List ℕ) (at : ℕ) → ((i : ℕ) → get_or s i 0 < 2 ^ 64) → is_task (kind_of (from 0 s at task_size)) ≡ true → task_zeros (from 0 s at task_size) ≡ true
    → task_ok frames cells sensors (task_of (from 0 s at task_size)) ≡ true → task_line (task_of (from 0 s at task_size)) ≡ from 0 s at task_size
task-words-back frames cells sensors s at small =
    rw (from-six s at) (λ t z o. task-line frames cells sensors _ _ _ _ _ (small (at + 4)) (small (at + 5)) _ t o z)

unused-ok : task_ok 1 1 1 unused_task ≡ true
unfolding task_ok op_ok constants_ok reads all_in
unused-ok = refl

module _ (ws : List ℕ) (small : (i : ℕ) → get_or ws i 0 < 2 ^ 64) (pass : words_ok ws ≡ true) (h : Shape (plan_in ws)) where
  -- the tests, one by one
  long : length ws ≡ plan_size
  unfolding words_ok
  long = eqb-true (length ws) plan_size (and_left _ _ pass)

  tables-pass : (all_below (task_words ws) most_tasks && all_below (vote_words ws) most_frames) ≡ true
  unfolding words_ok
  tables-pass = and_right (eqb (length ws) plan_size) _ pass

  task-is : (k : ℕ) → k < most_tasks → task_at (plan_in ws) k ≡ task_of (task_in ws k)
  unfolding plan_in
  task-is k l =
      fill-in (λ j. task_of (task_in ws j)) most_tasks (replicate most_tasks unused_task) k unused_task l (rw (length-replicate most_tasks unused_task) l)

  task-again : (frames cells sensors k : ℕ) → k < most_tasks → task_ok frames cells sensors (task_at (plan_in ws) k) ≡ true → task_line (task_at (plan_in ws) k) ≡ task_in ws k
  unfolding task_in task_words
  task-again frames cells sensors k l o =
      let t = all_below-at (task_words ws) most_tasks k l (and_left _ _ tables-pass) in
      ap task_line (task-is k l)
      ∙ task-words-back frames cells sensors ws (tasks_at + task_size * k) small (and_left _ _ t) (and_right (is_task (kind_of (from 0 ws (tasks_at + task_size * k) task_size))) _ t) (rw (task-is k l) at o)

  task-same : (k : ℕ) → k < most_tasks → task_line (task_at (plan_in ws) k) ≡ task_in ws k
  unfolding task_ok
  task-same k l =
      let q = plan_in ws in
      split (ltb k q.task_count)
      (λ t.
      let m = ltb-true _ _ t in
      task-again q.frames q.cells q.sensors k l (and_both (and_both (lt-ltb _ _ (h.frame k m)) (lt-ltb _ _ (h.target k m))) (h.op k m)))
      (λ t. task-again 1 1 1 k l (rw (h.unused k (ltb-false _ _ t)) unused-ok))

  vote-same : (g : ℕ) → g < most_frames → vote_word (plan_in ws) g ≡ vote_in ws g
  unfolding plan_in voted_in vote_word vote_words
  vote-same g l =
      number_of_bits-same (voted_in (plan_in ws) g) (bit (vote_in ws g)) most_cells
      (λ c m.
      let n : vote_place g c < most_frames * most_cells = omega arith in
      fill-in (votes_in ws) (most_frames * most_cells) (replicate (most_frames * most_cells) false) (vote_place g c) false n (rw (length-replicate (most_frames * most_cells) false) n)
      ∙ vote-here ws g c m)
      ∙ word-of-bits (vote_in ws g) most_cells (ltb-true _ _ (all_below-at (vote_words ws) most_frames g l (and_right (all_below (task_words ws) most_tasks) _ tables-pass)))

  tasks-same : tasks_of (plan_in ws) ≡ from 0 ws tasks_at (task_size * most_tasks)
  unfolding task_in
  tasks-same = joined-from ws tasks_at task_size (λ k. task_line (task_at (plan_in ws) k)) most_tasks task-same

  votes-same : votes_of (plan_in ws) ≡ from 0 ws votes_at most_frames
  unfolding vote_in
  votes-same =
      joined-from ws votes_at 1 (λ g. vote_word (plan_in ws) g ∷ []) most_frames
      (λ g l. let e : votes_at + 1 * g ≡ votes_at + g = omega arith in rw e (ap (λ (w : ℕ). w ∷ []) (vote-same g l) ∙ sym (from_one ws (votes_at + g))))

  words_back : plan_words (plan_in ws) ≡ ws
  unfolding plan_words plan_in
  words_back =
      (λ i. sym (from-six ws 0) i ++ (from 0 ws initial_at most_cells ++ (tasks-same i ++ (votes-same i ++ from 0 ws actuators_at most_actuators))))
      ∙ sym (all-parts ws) ∙ from_all ws plan_size long

-- ---- the laws

-- an accepted plan is read back from its words
pub words-of-plan : (p : Plan) → accepted p ≡ true → plan_of_words (plan_words p) ≡ p
unfolding plan_of_words
words-of-plan p a = let h = shape-of-accepted p a in rw (words-pass p h) (plan-back p h)

-- 64-bit words that mean an accepted plan are its words
pub plan-of-words : (ws : List ℕ) → ((i : ℕ) → get_or ws i 0 < 2 ^ 64) → accepted (plan_of_words ws) ≡ true → plan_words (plan_of_words ws) ≡ ws
unfolding plan_of_words
plan-of-words ws small =
    split (words_ok ws)
    (λ t. rw t (λ a. words_back ws small t (shape-of-accepted (plan_in ws) a)))
    (λ t. rw t (λ a. absurd (clash a zero-refused)))

-- so words that no accepted plan has are refused, whatever their length
pub other-words-refused : (ws : List ℕ) → ((i : ℕ) → get_or ws i 0 < 2 ^ 64) → ((p : Plan) → accepted p ≡ true → ws ≡ plan_words p → ⊥) → accepted (plan_of_words ws) ≡ false
other-words-refused ws small none =
    split (accepted (plan_of_words ws)) (λ t. absurd (none (plan_of_words ws) t (sym (plan-of-words ws small t)))) (λ t. t)
