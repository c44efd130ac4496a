-- The code's walk to the recovery period follows `known` from every first frame, and ends at `period`.
use mathlib.Core.Path.{◌≡◌, refl, sym, ap, ◌∙◌}
use mathlib.Core.Bool.{Bool, true, false, cond, ◌&&◌, ◌||◌, and-true}
use mathlib.Core.List.{List, [], ◌∷◌}
use mathlib.Core.Logic.{◌⊎◌, inl, inr, ⊎_elim}
use Prim.Native.Nat.{ℕ, zero, suc, ◌+◌, ◌-◌, ◌*◌, ◌%◌, ◌^◌, ◌≤◌, ◌<◌, min}
use native.Mathlib.Omega.{arith}
use native.Mathlib.Nat.{mod-eq_of_lt, mod-lt, mod_self, mod-add-mod, not-suc-le-zero}
use native.Mathlib.Numerals.{add-one}
use lib.Dec.{eqb, ltb}
use lib.ListN.{length, get_or, set, replicate, length-set, get_or-replicate, get_or-eq_default}
use lib.Seq.{get_or-set_same, get_or-set_other}
use borrow.Author.Tests.{eqb-true, eqb-false, ltb-true, ltb-false, lt-ltb, le-ltb}
use Rattle.array.specs.Index.{all_in}
use Rattle.array.specs.Bit.{bit}
use Rattle.array.proofs.TestLaws.{split, clash, and_left, and_right, and_both}
use Rattle.array.proofs.IndexLaws.{all_below-at, all_below-all}
use Rattle.array.proofs.PlacesLaws.{fill-in, fill-out, fill-length}
use Rattle.array.proofs.BitLaws.{bit-and, bit-or, bit-ones, bit-none}
use Rattle.plan.specs.declared.Op.{Op}
use Rattle.plan.specs.declared.Task.{Task}
use Rattle.plan.specs.declared.Plan.{Plan}
use Rattle.plan_walk.specs.declared.step.Walk.{Walk}
use Rattle.plan.specs.Known.{reads, reads_known, know_task, know_tasks, know_voted, know_frame, known, none_known, all_known, period}
use Rattle.plan.specs.Tables.{task_at, vote_place, voted_in}
use Rattle.plan_walk.specs.Code.{walk_start, words_start, all_words, read_word, after_task, with_votes, whole, longer, Closed}
use Rattle.plan.proofs.AcceptedLaws.{Shape}
use Rattle.plan.proofs.KnownLaws.{All, task-elsewhere, task-target, task-other, voted-is, voted-past, tasks-length, known-first, known_next, known-length, none-known}
use Rattle.plan.proofs.PeriodLaws.{all_known-at, all_known-all, all-stays, all_known-stays, period-is, period-none}

-- ---- tests

both-and : (b x y : Bool) → ((b && x) && (b && y)) ≡ (b && (x && y))
both-and true x y = refl
both-and false x y = refl

-- ---- a word's bit for one first frame

-- begun n says which first frames are begun after n frames
begun-bit : (frames time g : ℕ) → g < frames → bit (2 ^ min time frames - 1) g ≡ ltb g time
begun-bit frames time g l =
    bit-ones (min time frames) g
    ∙ split (ltb g time)
    (λ t. lt-ltb g (min time frames) (omega (arith, ltb-true g time t)) ∙ sym t)
    (λ t. le-ltb g (min time frames) (omega (arith, ltb-false g time t)) ∙ sym t)

-- where the words say what is known from a first frame that is begun (b), so does the word of a list of cells
module _ (begun g : ℕ) (b : Bool) (ws : List ℕ) (ks : List Bool) (h : (c : ℕ) → bit (get_or ws c 0) g ≡ (b && get_or ks c false)) (e : bit begun g ≡ b) where
  words-bit : (l : List ℕ) → bit (all_words begun ws l) g ≡ (b && all_in (λ c. get_or ks c false) l)
  unfolding all_words all_in
  words-bit [] = e ∙ sym (and-true b)
  words-bit (c ∷ l) = bit-and (get_or ws c 0) (all_words begun ws l) g ∙ rw (h c, words-bit l) (both-and b (get_or ks c false) _)

  -- and the word that a task gives
  read-bit : (o : Op) (target : ℕ) → bit (read_word o target begun ws) g ≡ (b && reads_known o target ks)
  unfolding read_word reads_known
  read-bit o target = words-bit (reads o target)

-- ---- tasks of other frames change nothing

module _ (p : Plan) (f : ℕ) (ks : List Bool) where
  tasks-none : (k : ℕ) → ((j : ℕ) → j < k → (task_at p j).frame ≡ f → ⊥) → know_tasks p f k ks ≡ ks
  unfolding know_tasks
  tasks-none zero n = refl
  tasks-none (suc k) n = task-elsewhere f (task_at p k) (know_tasks p f k ks) (n k (omega arith)) ∙ tasks-none k (λ j l. n j (omega arith))

  tasks-rest : (i k : ℕ) → i ≤ k → ((j : ℕ) → i ≤ j → j < k → (task_at p j).frame ≡ f → ⊥) → know_tasks p f k ks ≡ know_tasks p f i ks
  unfolding know_tasks
  tasks-rest i zero l n = let e : i ≡ 0 = omega arith in rw e
  tasks-rest i (suc k) l n =
      split (eqb i (suc k))
      (λ t. rw (eqb-true i (suc k) t))
      (λ t. task-elsewhere f (task_at p k) (know_tasks p f k ks) (n k (omega (arith, eqb-false i (suc k) t)) (omega arith))
      ∙ tasks-rest i k (omega (arith, eqb-false i (suc k) t)) (λ j m o. n j m (omega arith)))

-- ---- the longest count

module _ (longest low frames ran : ℕ) where
  longer-cases :
      (longer longest low frames ran ≡ longest)
      ⊎ ((longer longest low frames ran ≡ ran - low) × (low < frames) × (low < ran) × (longest < ran - low))
  unfolding longer
  longer-cases =
      split (ltb low frames && ltb low ran && ltb longest (ran - low))
      (λ t. inr (rw t, ltb-true low frames (and_left _ _ (and_left _ (ltb longest (ran - low)) t)), ltb-true low ran (and_right (ltb low frames) _ (and_left _ (ltb longest (ran - low)) t)), ltb-true longest (ran - low) (and_right (ltb low frames && ltb low ran) _ t)))
      (λ t. inl (rw t))

  longer-le : longest ≤ longer longest low frames ran
  longer-le = ⊎_elim (λ e. omega arith) (λ e. omega (arith, e.0, e.3)) longer-cases

  longer-short : longest ≤ ran → longer longest low frames ran ≤ ran
  longer-short l = ⊎_elim (λ e. omega arith) (λ e. omega (arith, e.0)) longer-cases

  longer-behind : low < frames → low < ran → ran - low ≤ longer longest low frames ran
  unfolding longer
  longer-behind f r =
      split (ltb longest (ran - low))
      (λ t. rw (lt-ltb low frames f, lt-ltb low ran r, t) (omega arith))
      (λ t. rw (lt-ltb low frames f, lt-ltb low ran r, t) (ltb-false longest (ran - low) t))

-- ---- the walk

-- what holds before task i, or before the votes: the words say what is known from each first frame that is begun
pub record Walked (p : Plan) (ws : List ℕ) (w : Walk) (i : ℕ) : Type 0 where
  pub size : length ws ≡ 32
  pub now : w.frame ≡ w.time % p.frames
  pub next : i ≤ p.task_count
  pub ran : (j : ℕ) → j < i → (task_at p j).frame ≤ w.frame
  pub left : (j : ℕ) → i ≤ j → j < p.task_count → w.frame ≤ (task_at p j).frame
  pub words : (g : ℕ) → g < p.frames → (c : ℕ) → bit (get_or ws c 0) g ≡ (ltb g w.time && get_or (know_tasks p w.frame i (known p g (w.time - g))) c false)
  pub low : w.low < p.frames
  pub passed : (g : ℕ) → g < w.low → All p.cells (known p g (w.longest + 1))
  pub behind : w.low < w.time → w.time - w.low ≤ w.longest
  pub unknown : 0 < w.longest → all_known p w.longest ≡ false
  pub short : w.longest ≤ w.time

module _ (p : Plan) (s : Shape p) where
  pub walked_start : Walked p words_start walk_start 0
  walked_start =
      record {
        size = refl;
        now = sym (mod-eq_of_lt s.frames-pos);
        next = omega arith;
        ran = λ j l. absurd (not-suc-le-zero l);
        left = λ j l k. omega arith;
        words = λ g l c. ap (λ (x : ℕ). bit x g) (zeros c) ∙ bit-none g ∙ rw (le-ltb g 0 (omega arith));
        low = s.frames-pos;
        passed = λ g l. absurd (not-suc-le-zero l);
        behind = λ l. absurd (not-suc-le-zero l);
        unknown = λ l. absurd (not-suc-le-zero l);
        short = omega arith;
      }
    where
      zeros : (c : ℕ) → ◌≡◌ {A = ℕ} (get_or (replicate 32 0) c 0) 0
      zeros c =
          split (ltb c 32)
          (λ t. get_or-replicate 32 c 0 0 (ltb-true c 32 t))
          (λ t. get_or-eq_default (replicate 32 0) 0 {n = c} (ltb-false c 32 t))

  -- a task of the frame
  module _ (ws : List ℕ) (w : Walk) (i : ℕ) (h : Walked p ws w i) (l : i < p.task_count) (here : (task_at p i).frame ≡ w.frame) where
    task-words : (g : ℕ) → g < p.frames → (c : ℕ)
        → bit (get_or (set ws (task_at p i).target (read_word (task_at p i).op (task_at p i).target (2 ^ min w.time p.frames - 1) ws)) c 0) g
        ≡ (ltb g w.time && get_or (know_task w.frame (task_at p i) (know_tasks p w.frame i (known p g (w.time - g)))) c false)
    task-words g gl c = split (eqb c t.target) (λ e. rw (eqb-true c t.target e) same) (λ e. other (eqb-false c t.target e))
      where
        t : Task
        t = task_at p i

        ks : List Bool
        ks = know_tasks p w.frame i (known p g (w.time - g))

        v : ℕ
        v = read_word t.op t.target (2 ^ min w.time p.frames - 1) ws

        full : length ks ≡ 32
        full = tasks-length p w.frame i (known p g (w.time - g)) ∙ known-length p g (w.time - g)

        same : bit (get_or (set ws t.target v) t.target 0) g ≡ (ltb g w.time && get_or (know_task w.frame t ks) t.target false)
        same =
            ap (λ (x : ℕ). bit x g) (get_or-set_same ws t.target v 0 (omega (arith, h.size, s.target i l, s.cells-le)))
            ∙ read-bit _ g (ltb g w.time) ws ks (h.words g gl) (begun-bit p.frames w.time g gl) t.op t.target
            ∙ ap (λ (b : Bool). ltb g w.time && b) (sym (task-target w.frame t ks here (omega (arith, full, s.target i l, s.cells-le))))

        other : (c ≡ t.target → ⊥) → bit (get_or (set ws t.target v) c 0) g ≡ (ltb g w.time && get_or (know_task w.frame t ks) c false)
        other n =
            ap (λ (x : ℕ). bit x g) (get_or-set_other ws t.target c v 0 n)
            ∙ h.words g gl c
            ∙ ap (λ (b : Bool). ltb g w.time && b) (sym (task-other w.frame t ks c n))

    pub walked-task : Walked p (after_task (2 ^ min w.time p.frames - 1) ws (task_at p i)) w (i + 1)
    unfolding after_task know_tasks
    walked-task =
        record {
          size = length-set ws _ _ ∙ h.size;
          now = h.now;
          next = omega arith;
          ran = λ j m. split (eqb j i) (λ e. rw (eqb-true j i e) (omega (arith, here))) (λ e. h.ran j (omega (arith, eqb-false j i e)));
          left = λ j m k. h.left j (omega arith) k;
          words = λ g gl c. rw (add-one i) (task-words g gl c);
          low = h.low;
          passed = h.passed;
          behind = h.behind;
          unknown = h.unknown;
          short = h.short;
        }

  -- the votes, where no task of the frame is left
  module _
      (ws : List ℕ) (w : Walk) (vs : List ℕ) (r : Walk) (i : ℕ) (h : Walked p ws w i)
      (rest : (j : ℕ) → i ≤ j → j < p.task_count → (task_at p j).frame ≡ w.frame → ⊥)
      (q : Closed p.voted p.frames p.cells ws w vs r)
    where
      frame-lt : w.frame < p.frames
      frame-lt = rw h.now (mod-lt w.time s.frames-pos)

      next-now : r.frame ≡ (w.time + 1) % p.frames
      next-now =
          split (ltb (w.frame + 1) p.frames)
          (λ t. q.next (ltb-true _ _ t) ∙ sym (step ∙ mod-eq_of_lt (ltb-true _ _ t)))
          (λ t. q.wrap (ltb-false _ _ t) ∙ sym (step ∙ last (ltb-false _ _ t)))
        where
          step : (w.time + 1) % p.frames ≡ (w.frame + 1) % p.frames
          step = sym (rw h.now (mod-add-mod w.time p.frames 1))

          last : p.frames ≤ w.frame + 1 → (w.frame + 1) % p.frames ≡ 0
          last k = let e : w.frame + 1 ≡ p.frames = omega (arith, frame-lt) in rw e (mod_self p.frames)

      -- what was known before the votes
      tasked : ℕ → List Bool
      tasked g = know_tasks p w.frame i (known p g (w.time - g))

      tasked-full : (g : ℕ) → length (tasked g) ≡ 32
      unfolding tasked
      tasked-full g = tasks-length p w.frame i (known p g (w.time - g)) ∙ known-length p g (w.time - g)

      known-later : (g : ℕ) → g < w.time → known p g (w.time + 1 - g) ≡ know_voted p w.frame p.cells (tasked g)
      unfolding know_frame tasked
      known-later g l =
          let e : w.time + 1 - g ≡ suc (suc (w.time - g - 1)) = omega arith in
          let d : suc (w.time - g - 1) ≡ w.time - g = omega arith in
          let m : g + (w.time - g) ≡ w.time = omega arith in
          ap (known p g) e ∙ known_next p g (w.time - g - 1)
          ∙ rw (d, m, ← h.now)
          (ap (know_voted p w.frame p.cells) (tasks-rest p w.frame (known p g (w.time - g)) i p.task_count h.next rest))

      known-begun : (g : ℕ) → g < p.frames → g ≡ w.time → known p g (w.time + 1 - g) ≡ know_voted p w.frame p.cells none_known
      known-begun g gl e =
          let d : w.time + 1 - g ≡ 1 = omega arith in
          let f : g ≡ w.frame = e ∙ sym (mod-eq_of_lt (rw e at gl)) ∙ sym h.now in
          ap (known p g) d ∙ known-first p g ∙ ap (λ (x : ℕ). know_voted p x p.cells none_known) f

      cond-bit : (b : Bool) (x g : ℕ) → bit (cond b x 0) g ≡ (b && bit x g)
      cond-bit true x g = refl
      cond-bit false x g = bit-none g

      -- a cell's word after the votes
      voted-bit : (g c : ℕ) → g < p.frames → c < p.cells
          → bit (get_or vs c 0) g ≡ ((ltb g w.time && get_or (tasked g) c false) || (voted_in p w.frame c && ltb g (w.time + 1)))
      unfolding with_votes voted_in tasked
      voted-bit g c gl cl =
          ap (λ (ws : List ℕ). bit (get_or ws c 0) g) q.words
          ∙ ap (λ (x : ℕ). bit x g) (fill-in _ p.cells ws c 0 cl (omega (arith, h.size, s.cells-le)))
          ∙ bit-or (get_or ws c 0) _ g
          ∙ rw (h.words g gl c, cond-bit (get_or p.voted (vote_place w.frame c) false) (2 ^ min (w.time + 1) p.frames - 1) g, begun-bit p.frames (w.time + 1) g gl)

      past-bit : (g c : ℕ) → g < p.frames → p.cells ≤ c → bit (get_or vs c 0) g ≡ (ltb g w.time && get_or (tasked g) c false)
      unfolding with_votes tasked
      past-bit g c gl cl =
          ap (λ (ws : List ℕ). bit (get_or ws c 0) g) q.words
          ∙ ap (λ (x : ℕ). bit x g) (fill-out _ p.cells ws c 0 cl)
          ∙ h.words g gl c

      either : (x v : Bool) → (x || (v && true)) ≡ (v || x)
      either true true = refl
      either true false = refl
      either false true = refl
      either false false = refl

      neither : (v : Bool) → (v && false) ≡ false
      neither true = refl
      neither false = refl

      or-none : (v : Bool) → (v || false) ≡ v
      or-none true = refl
      or-none false = refl

      Says : ℕ → ℕ → Type 0
      Says g c = bit (get_or vs c 0) g ≡ (ltb g (w.time + 1) && get_or (known p g (w.time + 1 - g)) c false)

      says-later : (g c : ℕ) → g < p.frames → g < w.time → Says g c
      unfolding Says
      says-later g c gl l =
          rw (lt-ltb g (w.time + 1) (omega arith), known-later g l)
          (split (ltb c p.cells)
          (λ t. let cl = ltb-true c p.cells t in
          voted-bit g c gl cl ∙ rw (lt-ltb g w.time l, lt-ltb g (w.time + 1) (omega arith))
          (either (get_or (tasked g) c false) (voted_in p w.frame c) ∙ sym (voted-is p w.frame p.cells (tasked g) c cl (omega (arith, tasked-full g, s.cells-le)))))
          (λ t. let cl = ltb-false c p.cells t in
          past-bit g c gl cl ∙ rw (lt-ltb g w.time l) (sym (voted-past p w.frame p.cells (tasked g) c cl))))

      says-begun : (g c : ℕ) → g < p.frames → g ≡ w.time → Says g c
      unfolding Says
      says-begun g c gl e =
          rw (lt-ltb g (w.time + 1) (omega arith), known-begun g gl e)
          (split (ltb c p.cells)
          (λ t. let cl = ltb-true c p.cells t in
          voted-bit g c gl cl ∙ rw (le-ltb g w.time (omega arith), lt-ltb g (w.time + 1) (omega arith), voted-is p w.frame p.cells none_known c cl (omega (arith, s.cells-le)), none-known c)
          (and-true (voted_in p w.frame c) ∙ sym (or-none (voted_in p w.frame c))))
          (λ t. let cl = ltb-false c p.cells t in
          past-bit g c gl cl ∙ rw (le-ltb g w.time (omega arith), voted-past p w.frame p.cells none_known c cl) (sym (none-known c))))

      says-not : (g c : ℕ) → g < p.frames → w.time < g → Says g c
      unfolding Says
      says-not g c gl l =
          rw (le-ltb g (w.time + 1) (omega arith))
          (split (ltb c p.cells)
          (λ t. voted-bit g c gl (ltb-true c p.cells t) ∙ rw (le-ltb g w.time (omega arith), le-ltb g (w.time + 1) (omega arith)) (neither (voted_in p w.frame c)))
          (λ t. past-bit g c gl (ltb-false c p.cells t) ∙ rw (le-ltb g w.time (omega arith))))

      says : (g c : ℕ) → g < p.frames → Says g c
      says g c gl =
          split (ltb g w.time)
          (λ t. says-later g c gl (ltb-true _ _ t))
          (λ t. split (eqb g w.time) (λ e. says-begun g c gl (eqb-true _ _ e)) (λ e. says-not g c gl (omega (arith, ltb-false g w.time t, eqb-false g w.time e))))

      -- ---- the first frames from which all is known

      whole-known : (g : ℕ) → g < p.frames → whole vs p.cells g ≡ true → (g < w.time + 1) × All p.cells (known p g (w.time + 1 - g))
      unfolding whole Says
      whole-known g gl e =
          let each : (c : ℕ) → c < p.cells → (ltb g (w.time + 1) && get_or (known p g (w.time + 1 - g)) c false) ≡ true =
          λ c cl. sym (says g c gl) ∙ all_below-at (λ x. bit (get_or vs x 0) g) p.cells c cl e in
          (ltb-true g (w.time + 1) (and_left _ _ (each 0 s.cells-pos)), λ c cl. and_right (ltb g (w.time + 1)) _ (each c cl))

      not-whole : (g : ℕ) → g < p.frames → g < w.time + 1 → whole vs p.cells g ≡ false → all_known p (w.time + 1 - g) ≡ false
      unfolding whole Says
      not-whole g gl l e =
          split (all_known p (w.time + 1 - g))
          (λ t. absurd (clash
          (all_below-all (λ x. bit (get_or vs x 0) g) p.cells (λ c cl. says g c gl ∙ and_both (lt-ltb g (w.time + 1) l) (all_known-at p (w.time + 1 - g) t g c gl cl)))
          e))
          (λ t. t)

      pub next-passed : (g : ℕ) → g < r.low → All p.cells (known p g (r.longest + 1))
      next-passed g l =
          split (ltb g w.low)
          (λ t. all-stays p s g (w.longest + 1) (r.longest + 1) (omega arith) (omega (arith, more)) (h.passed g (ltb-true _ _ t)))
          (λ t. new (ltb-false _ _ t) (whole-known g (omega (arith, q.to)) (q.passed g (ltb-false _ _ t) l)))
        where
          more : w.longest ≤ r.longest
          more = rw q.longest (longer-le w.longest r.low p.frames (w.time + 1))

          new : w.low ≤ g → (g < w.time + 1) × All p.cells (known p g (w.time + 1 - g)) → All p.cells (known p g (r.longest + 1))
          new m k =
              all-stays p s g (w.time + 1 - g) (r.longest + 1) (omega (arith, k.0))
              (split (ltb w.low w.time)
              (λ t. omega (arith, more, h.behind (ltb-true w.low w.time t)))
              (λ t. omega (arith, ltb-false w.low w.time t)))
              k.1

      pub next-short : r.longest ≤ r.time
      next-short = rw (q.time, q.longest) (longer-short w.longest r.low p.frames (w.time + 1) (omega (arith, h.short)))

      pub next-unknown : 0 < r.longest → all_known p r.longest ≡ false
      next-unknown =
          ⊎_elim
          (λ e. let k : r.longest ≡ w.longest = q.longest ∙ e in rw k h.unknown)
          (λ e. let k : r.longest ≡ w.time + 1 - r.low = q.longest ∙ e.0 in rw k (λ l. not-whole r.low e.1 e.2 (q.stopped e.1)))
          (longer-cases w.longest r.low p.frames (w.time + 1))

      -- all is known from every first frame: the period is found
      pub walked-found : r.low ≡ p.frames → period p ≡ r.longest + 1
      walked-found e =
          period-is p s (r.longest + 1)
          (all_known-all p (r.longest + 1) (λ g c gl cl. next-passed g (omega arith) c cl))
          (λ k l m. split (all_known p k) (λ t. absurd (clash (all_known-stays p s k r.longest l (omega arith) t) (next-unknown (omega arith)))) (λ t. t))

      next-words : (j : ℕ) → ((k : ℕ) → k < j → (task_at p k).frame ≡ r.frame → ⊥) → (g : ℕ) → g < p.frames → (c : ℕ)
          → bit (get_or vs c 0) g ≡ (ltb g r.time && get_or (know_tasks p r.frame j (known p g (r.time - g))) c false)
      unfolding Says
      next-words j n g gl c = rw (tasks-none p r.frame (known p g (r.time - g)) j n, q.time) (says g c gl)

      next-size : length vs ≡ 32
      unfolding with_votes
      next-size = ap length q.words ∙ fill-length _ p.cells ws ∙ h.size

      next-behind : r.low < p.frames → r.low < r.time → r.time - r.low ≤ r.longest
      next-behind l = rw (q.time, q.longest) (longer-behind w.longest r.low p.frames (w.time + 1) l)

      -- the next frame of the cycle
      pub walked_next : r.low < p.frames → (r.frame ≡ 0 → ⊥) → Walked p vs r i
      walked_next l n =
          let f : r.frame ≡ w.frame + 1 = split (ltb (w.frame + 1) p.frames) (λ t. q.next (ltb-true _ _ t)) (λ t. absurd (n (q.wrap (ltb-false _ _ t)))) in
          record {
            size = next-size;
            now = next-now ∙ rw q.time;
            next = h.next;
            ran = λ j m. omega (arith, h.ran j m);
            left = λ j m k. let o : (task_at p j).frame ≡ w.frame → ⊥ = rest j m k in omega (arith, h.left j m k, o);
            words = next-words i (λ k m e. omega (arith, h.ran k m));
            low = l;
            passed = next-passed;
            behind = next-behind l;
            unknown = next-unknown;
            short = next-short;
          }

      -- the first frame of the next cycle
      pub walked-wrap : r.low < p.frames → r.frame ≡ 0 → Walked p vs r 0
      walked-wrap l f =
          record {
            size = next-size;
            now = next-now ∙ rw q.time;
            next = omega arith;
            ran = λ j m. absurd (not-suc-le-zero m);
            left = λ j m k. omega (arith, f);
            words = next-words 0 (λ k m. absurd (not-suc-le-zero m));
            low = l;
            passed = next-passed;
            behind = next-behind l;
            unknown = next-unknown;
            short = next-short;
          }

  -- so many frames were run that there is no period
  pub walked_none : (ws : List ℕ) (w : Walk) (i : ℕ) → Walked p ws w i → p.frames * p.cells + p.frames ≤ w.time → period p ≡ 0
  walked_none ws w i h l =
      let b : w.time - w.low ≤ w.longest = h.behind (omega (arith, h.low)) in
      let m : 1 + p.frames * p.cells ≤ w.longest = omega (arith, h.low) in
      period-none p s w.longest m (h.unknown (omega arith))
