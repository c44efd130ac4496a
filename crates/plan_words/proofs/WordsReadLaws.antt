-- Laws for reading a plan from words: entries stored one by one, four votes at a time, a task of its numbers, the plan.
use Rattle.std.specs.Prelude.{Option, None, Some}
use mathlib.Core.Path.{◌≡◌, refl, sym, ap, ◌∙◌}
use mathlib.Core.Bool.{Bool, true, false, not, cond, ◌&&◌, and-false}
use mathlib.Core.List.{List, [], ◌∷◌}
use Prim.Native.Nat.{ℕ, ◌+◌, ◌*◌, ◌/◌, ◌%◌, ◌^◌, ◌≤◌, ◌<◌}
use native.Mathlib.Omega.{arith}
use lib.Dec.{eqb}
use lib.Ieee.{Float}
use lib.ListN.{length, get_or, set, take, drop, replicate, length-replicate}
use borrow.Author.Tests.{eq-eqb, ne_eqb, not-true}
use Rattle.array.specs.Index.{all_below, fill, from}
use Rattle.array.specs.Bit.{bit}
use Rattle.array.proofs.BitLaws.{mask_fits}
use Rattle.array.proofs.TestLaws.{split, and_both, and-false-left, and-false-right}
use Rattle.array.proofs.IndexLaws.{all_below-at, all_below-fails}
use Rattle.array.proofs.PlacesLaws.{fill_more, fill-from}
use Rattle.array.proofs.PlacedLaws.{part-from}
use Rattle.pattern.specs.Pattern.{value_of}
use Rattle.plan.specs.declared.Op.{Op}
use Rattle.plan.specs.declared.Op.TheVariants.{Take, Sum, Diff, Scale, Limit, Wind, Cam}
use Rattle.plan.specs.declared.Task.{Task}
use Rattle.plan.specs.declared.Plan.{Plan}
use Rattle.plan.specs.Limits.{most_frames, most_cells, most_tasks, most_actuators}
use Rattle.plan.specs.Tables.{unused_task, vote_place, vote_frame, vote_cell}
use Rattle.plan_grammar.specs.Line.{kind_of, is_task, take_kind, sum_kind, diff_kind, scale_kind, limit_kind, wind_kind, cam_kind}
use Rattle.plan_grammar.specs.Meant.{zero_plan, op_of, task_of}
use Rattle.plan_grammar.specs.Refused.{task_zeros}
use Rattle.plan_grammar.proofs.MeantLaws.{by_kind}
use Rattle.plan_line.specs.declared.Line.{Line}
use Rattle.plan_line.specs.Code.{numbers_in}
use Rattle.plan_words.specs.Words.{initial_at, votes_at, actuators_at, plan_size, task_in, vote_in, plan_in, task_words, vote_words, words_ok, plan_of_words}
use Rattle.plan_words.proofs.BitsLaws.{bit-of-four}

-- ---- the table of the bits of 0 to 15

-- as src/step.rt has it
abbrev four_bits : List Bool
four_bits =
    false ∷ false ∷ false ∷ false ∷ true ∷ false ∷ false ∷ false ∷ false ∷ true ∷ false ∷ false ∷ true ∷ true ∷ false ∷ false
    ∷ false ∷ false ∷ true ∷ false ∷ true ∷ false ∷ true ∷ false ∷ false ∷ true ∷ true ∷ false ∷ true ∷ true ∷ true ∷ false
    ∷ false ∷ false ∷ false ∷ true ∷ true ∷ false ∷ false ∷ true ∷ false ∷ true ∷ false ∷ true ∷ true ∷ true ∷ false ∷ true
    ∷ false ∷ false ∷ true ∷ true ∷ true ∷ false ∷ true ∷ true ∷ false ∷ true ∷ true ∷ true ∷ true ∷ true ∷ true ∷ true ∷ []

agree : (a b : Bool) → cond a b (not b) ≡ true → a ≡ b
agree true b e = sym e
agree false b e = sym (not-true b e)

abbrev right : ℕ → Bool
right i = cond (get_or four_bits i false) (bit (i / 4) (i % 4)) (not (bit (i / 4) (i % 4)))

all_right : all_below right 64 ≡ true
unfolding all_below bit
all_right = refl

pub table-rule : (i : ℕ) → i < 64 → get_or four_bits i false ≡ bit (i / 4) (i % 4)
table-rule i l = agree (get_or four_bits i false) (bit (i / 4) (i % 4)) (all_below-at right 64 i l all_right)

-- what a table of this rule has for a number
module _ (table : List Bool) (rule : (i : ℕ) → i < 64 → get_or table i false ≡ bit (i / 4) (i % 4)) (four : ℕ) (l : four < 16) where
  pub table-bit : (i at : ℕ) → i < 4 → at ≡ 4 * four + i → get_or table at false ≡ bit four i
  table-bit i at k e =
      let number : at / 4 ≡ four = omega arith in
      let place : at % 4 ≡ i = omega arith in
      rule at (omega arith) ∙ rw (number, place)

-- ---- the votes of a frame, four at a time
pub frame-more :
    (word frame c first : ℕ) (q : ℕ → Bool) (l : List Bool) {now next : List Bool} → first ≡ most_cells * frame → c + 4 ≤ most_cells → now ≡ fill q (vote_place frame c) l
    → ((x : ℕ) → x < most_cells → q (vote_place frame x) ≡ bit word x)
    → next ≡ set (set (set (set now (first + c) (bit (word / 2 ^ c % 16) 0)) (first + c + 1) (bit (word / 2 ^ c % 16) 1)) (first + c + 2) (bit (word / 2 ^ c % 16) 2)) (first + c + 3) (bit (word / 2 ^ c % 16) 3)
    → next ≡ fill q (vote_place frame (c + 4)) l
frame-more word frame c first q l f m e h s =
    let n : ℕ = vote_place frame c in
    let at : first + c ≡ n = omega arith in
    let none : n + 0 ≡ n = omega arith in
    let two : n + 1 + 1 ≡ n + 2 = omega arith in
    let three : n + 2 + 1 ≡ n + 3 = omega arith in
    let four : n + 3 + 1 ≡ vote_place frame (c + 4) = omega arith in
    s
    ∙ rw (at, e, fill_more q n l _ (rw none at (vote 0 (omega arith))), fill_more q (n + 1) l _ (vote 1 (omega arith)), two, fill_more q (n + 2) l _ (vote 2 (omega arith)), three, fill_more q (n + 3) l _ (vote 3 (omega arith)), four)
  where
    vote : (i : ℕ) → i < 4 → q (vote_place frame c + i) ≡ bit (word / 2 ^ c % 16) i
    vote i k =
        let z : vote_place frame c + i ≡ vote_place frame (c + i) = omega arith in
        rw z (h (c + i) (omega arith)) ∙ sym (bit-of-four word c i k)

-- ---- the votes of all frames

abbrev pub votes_in : List ℕ → ℕ → Bool
votes_in ws e = bit (vote_in ws (vote_frame e)) (vote_cell e)

pub vote-here : (ws : List ℕ) (g c : ℕ) → c < most_cells → votes_in ws (vote_place g c) ≡ bit (vote_in ws g) c
vote-here ws g c l =
    let frame : vote_place g c / most_cells ≡ g = omega arith in
    let cell : vote_place g c % most_cells ≡ c = omega arith in
    rw (frame, cell)

-- no bit past the cells, as the code tests it
pub vote-tested : (ws : List ℕ) (g : ℕ) → vote_words ws g ≡ eqb (get_or ws (votes_at + g) 0 / 2 ^ most_cells) 0
unfolding vote_words vote_in
vote-tested ws g = sym (mask_fits (get_or ws (votes_at + g) 0) most_cells)

-- one frame more
pub frames-more :
    (ws : List ℕ) (g : ℕ) (l : List Bool) {now next : List Bool}
    → ((q : ℕ → Bool) (l : List Bool) → now ≡ fill q (vote_place g 0) l → ((c : ℕ) → c < most_cells → q (vote_place g c) ≡ bit (get_or ws (votes_at + g) 0) c) → next ≡ fill q (vote_place g most_cells) l)
    → now ≡ fill (votes_in ws) (most_cells * g) l → next ≡ fill (votes_in ws) (most_cells * (g + 1)) l
unfolding vote_in
frames-more ws g l f e =
    let start : most_cells * g ≡ vote_place g 0 = omega arith in
    let end : vote_place g most_cells ≡ most_cells * (g + 1) = omega arith in
    f (votes_in ws) l (e ∙ ap (λ (n : ℕ). fill (votes_in ws) n l) start) (vote-here ws g) ∙ ap (λ (n : ℕ). fill (votes_in ws) n l) end

-- ---- a task of its numbers

-- the six numbers from a place
pub from-six : (s : List ℕ) (at : ℕ) → from 0 s at 6 ≡ get_or s at 0 ∷ get_or s (at + 1) 0 ∷ get_or s (at + 2) 0 ∷ get_or s (at + 3) 0 ∷ get_or s (at + 4) 0 ∷ get_or s (at + 5) 0 ∷ []
unfolding from
from-six s at = let z : at + 0 ≡ at = omega arith in rw z

module _ (f c a b d : ℕ) where
  -- the task of six numbers, if they are a task's
  abbrev pub task_said : ℕ → Option Task
  task_said k =
      cond (is_task k && task_zeros (k ∷ f ∷ c ∷ a ∷ b ∷ d ∷ [])) (Some (task_of (k ∷ f ∷ c ∷ a ∷ b ∷ d ∷ []))) None

  abbrev pub task_with : Op → Task
  task_with o = record { frame = f; target = c; op = o }

  -- by the tests of the kind, in the code's order
  module _ {k : ℕ} {r : Task} where
    pub said-limit : {x y : Float} → k ≡ limit_kind → x ≡ value_of b → y ≡ value_of d → r ≡ task_with (Limit a x y) → Some r ≡ task_said k
    unfolding is_task task_zeros task_of op_of
    said-limit e p q h = ap Some h ∙ rw (e, p, q)

    pub said-wind : {x y : Float} → k ≡ wind_kind → x ≡ value_of b → y ≡ value_of d → r ≡ task_with (Wind a (record { rate = x; cap = y })) → Some r ≡ task_said k
    unfolding is_task task_zeros task_of op_of
    said-wind e p q h = ap Some h ∙ rw (e, p, q)

    pub said-sum : k ≡ sum_kind → d ≡ 0 → r ≡ task_with (Sum a b) → Some r ≡ task_said k
    unfolding is_task task_zeros task_of op_of
    said-sum e z h = ap Some h ∙ rw (e, z)

    pub said-diff : k ≡ diff_kind → d ≡ 0 → r ≡ task_with (Diff a b) → Some r ≡ task_said k
    unfolding is_task task_zeros task_of op_of
    said-diff e z h = ap Some h ∙ rw (e, z)

    pub said-scale : {x : Float} → k ≡ scale_kind → d ≡ 0 → x ≡ value_of b → r ≡ task_with (Scale a x) → Some r ≡ task_said k
    unfolding is_task task_zeros task_of op_of
    said-scale e z p h = ap Some h ∙ rw (e, z, p)

    pub said-cam : k ≡ cam_kind → d ≡ 0 → b ≡ 0 → r ≡ task_with (Cam a) → Some r ≡ task_said k
    unfolding is_task task_zeros task_of op_of
    said-cam e z y h = ap Some h ∙ rw (e, z, y)

    pub said-take : k ≡ take_kind → d ≡ 0 → b ≡ 0 → r ≡ task_with (Take a) → Some r ≡ task_said k
    unfolding is_task task_zeros task_of op_of
    said-take e z y h = ap Some h ∙ rw (e, z, y)

  abbrev NoSixth : ℕ → Type 0
  NoSixth k = (k ≡ limit_kind → ⊥) → (k ≡ wind_kind → ⊥) → None ≡ task_said k

  pub said-no-sixth : (k : ℕ) → (d ≡ 0 → ⊥) → NoSixth k
  unfolding is_task task_zeros
  said-no-sixth k z =
      let off = ne_eqb d 0 z in
      split (is_task k)
      (by_kind NoSixth
      (λ p q. simp (off, and-false)) (λ p q. rw off) (λ p q. rw off) (λ p q. rw off) (λ p q. absurd (p refl)) (λ p q. absurd (q refl)) (λ p q. simp (off, and-false)) k)
      (λ t p q. rw t)

  -- none of the kinds that have a fifth number
  abbrev Bare : ℕ → Type 0 → Type 0
  Bare k X = (k ≡ limit_kind → ⊥) → (k ≡ wind_kind → ⊥) → (k ≡ sum_kind → ⊥) → (k ≡ diff_kind → ⊥) → (k ≡ scale_kind → ⊥) → X

  abbrev NoFifth : ℕ → Type 0
  NoFifth k = Bare k (None ≡ task_said k)

  pub said-no-fifth : (k : ℕ) → (b ≡ 0 → ⊥) → NoFifth k
  unfolding is_task task_zeros
  said-no-fifth k z =
      let off = ne_eqb b 0 z in
      split (is_task k)
      (by_kind NoFifth
      (λ l w s d c. rw off) (λ l w s d c. absurd (s refl)) (λ l w s d c. absurd (d refl)) (λ l w s d c. absurd (c refl))
      (λ l w s d c. absurd (l refl)) (λ l w s d c. absurd (w refl)) (λ l w s d c. rw off) k)
      (λ t l w s d c. rw t)

  abbrev NoKind : ℕ → Type 0
  NoKind k = Bare k ((k ≡ cam_kind → ⊥) → (k ≡ take_kind → ⊥) → None ≡ task_said k)

  pub said-no-kind : (k : ℕ) → NoKind k
  said-no-kind k =
      split (is_task k)
      (by_kind NoKind
      (λ l w s d c m t. absurd (t refl)) (λ l w s d c m t. absurd (s refl)) (λ l w s d c m t. absurd (d refl)) (λ l w s d c m t. absurd (c refl))
      (λ l w s d c m t. absurd (l refl)) (λ l w s d c m t. absurd (w refl)) (λ l w s d c m t. absurd (m refl)) k)
      (λ t l w s d c m n. rw t)

some_of : (b : Bool) (t x : Task) → Some t ≡ cond b (Some x) None → (b ≡ true) × (t ≡ x)
some_of true t x e = (refl, cc)
some_of false t x e = absurd (let z : ◌≡◌ {A = ℕ} 0 1 = cc in omega arith)

none_of : (b : Bool) (x : Task) → None ≡ cond b (Some x) None → b ≡ false
none_of true x e = absurd (let z : ◌≡◌ {A = ℕ} 0 1 = cc in omega arith)
none_of false x e = refl

-- ---- the plan

module _ (ws : List ℕ) where
  -- what the words of task k gave
  module _ (k : ℕ) (l : Line) (r : Option Task) (e : numbers_in l ≡ task_in ws k) (h : r ≡ cond (is_task l.kind && task_zeros (numbers_in l)) (Some (task_of (numbers_in l))) None) where
    told : r ≡ cond (task_words ws k) (Some (task_of (task_in ws k))) None
    unfolding task_words
    told = h ∙ ap (λ (n : List ℕ). cond (is_task (kind_of n) && task_zeros n) (Some (task_of n)) None) e

    pub task-whole : {t : Task} → r ≡ Some t → (task_words ws k ≡ true) × (t ≡ task_of (task_in ws k))
    task-whole g = some_of (task_words ws k) _ (task_of (task_in ws k)) (sym g ∙ told)

    pub task-none : r ≡ None → task_words ws k ≡ false
    task-none g = none_of (task_words ws k) (task_of (task_in ws k)) (sym g ∙ told)

  module _ {r : Plan} (h : r ≡ zero_plan) where
    refused : words_ok ws ≡ false → r ≡ plan_of_words ws
    unfolding plan_of_words
    refused e = h ∙ rw e

    pub other_length : (length ws ≡ plan_size → ⊥) → r ≡ plan_of_words ws
    unfolding words_ok
    other_length e = refused (and-false-left _ (ne_eqb (length ws) plan_size e))

    pub other-votes : all_below (vote_words ws) most_frames ≡ false → r ≡ plan_of_words ws
    unfolding words_ok
    other-votes e = refused (and-false-right (eqb (length ws) plan_size) (and-false-right (all_below (task_words ws) most_tasks) e))

    pub other-task : (k : ℕ) → k < most_tasks → task_words ws k ≡ false → r ≡ plan_of_words ws
    unfolding words_ok
    other-task k l e =
        refused (and-false-right (eqb (length ws) plan_size) (and-false-left _ (all_below-fails (task_words ws) most_tasks k l e)))

  pub words-ok : length ws ≡ plan_size → all_below (vote_words ws) most_frames ≡ true → all_below (task_words ws) most_tasks ≡ true → words_ok ws ≡ true
  unfolding words_ok
  words-ok e v t = and_both (eq-eqb (length ws) plan_size e) (and_both t v)

  pub plan-read :
      {initial cells : List ℕ} {tasks : List Task} {voted : List Bool} → length ws ≡ plan_size → all_below (vote_words ws) most_frames ≡ true → all_below (task_words ws) most_tasks ≡ true
      → initial ≡ take most_cells (drop initial_at ws)
      → tasks ≡ fill (λ k. task_of (task_in ws k)) most_tasks (replicate most_tasks unused_task)
      → voted ≡ fill (votes_in ws) (most_frames * most_cells) (replicate (most_frames * most_cells) false)
      → cells ≡ fill (λ i. get_or ws (actuators_at + i) 0) most_actuators (replicate most_actuators 0)
      → record { nodes = get_or ws 0 0; frames = get_or ws 1 0; cells = get_or ws 2 0; sensors = get_or ws 3 0; actuators = get_or ws 4 0; initial = initial; task_count = get_or ws 5 0; tasks = tasks; voted = voted; actuator_cell = cells }
      ≡ plan_of_words ws
  unfolding plan_of_words plan_in
  plan-read e v t hi ht hv ha =
      rw (words-ok e v t, hi, ht, hv, ha, part-from ws initial_at most_cells most_cells refl (omega (arith, e)), fill-from 0 ws actuators_at most_actuators (replicate most_actuators 0) (length-replicate {A = ℕ} most_actuators 0))
