-- Laws of the recovery period. `period` is the least count of all, not only of those that it tries: "If any exists, R ≤ 1 + F × C."
-- For a fixed last frame more good frames never know less. So the number of known pairs of a last frame and a cell, at most F × C, grows with the count
-- until it stands still, and then each frame knows for ever what it knows.
use mathlib.Core.Path.{◌≡◌, ◌∙◌}
use mathlib.Core.Bool.{Bool, true, false}
use mathlib.Core.List.{List}
use Prim.Native.Nat.{ℕ, zero, suc, ◌+◌, ◌-◌, ◌*◌, ◌/◌, ◌%◌, ◌≤◌, ◌<◌}
use native.Mathlib.Omega.{arith}
use native.Mathlib.Nat.{add-zero, not-suc-le-zero, suc-mul, mod-lt, mod-eq_of_lt, mod-add-mod, add-mod_right, add-mul-mod_self_left, div-eq_of_lt, div-lt_iff_lt-mul, mul-add-div_right, mul-add-mod_self_right}
use lib.Dec.{eqb, leb, ltb}
use lib.ListN.{length, get_or}
use borrow.Author.Tests.{leb-true, leb-false, ltb-true, ltb-false, eqb-true, eqb-false}
use Rattle.array.specs.Index.{how_many, all_below}
use Rattle.array.proofs.TestLaws.{split, clash}
use Rattle.array.proofs.IndexLaws.{all_below-at, all_below-all, how_many-le, how_many-bound}
use Rattle.plan.specs.declared.Plan.{Plan}
use Rattle.plan.specs.Limits.{most_cells}
use Rattle.plan.specs.Known.{know_voted, know_frame, none_known, known, all_known, period_to, period}
use Rattle.plan.proofs.AcceptedLaws.{Shape}
use Rattle.plan.proofs.KnownLaws.{voted-length, frame-length, known-none, known-first, known_next, known-length, none-known, Sub, All, frame-sub, first-sub, frame-all}

-- ---- all cells known, for every first frame

module _ (p : Plan) (h : ℕ) where
  pub all_known-at : all_known p h ≡ true → (g c : ℕ) → g < p.frames → c < p.cells → get_or (known p g h) c false ≡ true
  unfolding all_known
  all_known-at a g c gl cl =
      all_below-at (λ x. get_or (known p g h) x false) p.cells c cl
      (all_below-at (λ f. all_below (λ x. get_or (known p f h) x false) p.cells) p.frames g gl a)

  pub all_known-all : ((g c : ℕ) → g < p.frames → c < p.cells → get_or (known p g h) c false ≡ true) → all_known p h ≡ true
  unfolding all_known
  all_known-all f = all_below-all _ p.frames (λ g gl. all_below-all _ p.cells (λ c cl. f g c gl cl))

-- ---- the search up to k

-- r is the least count from 1 to k after which all cells are known, or 0
abbrev Found : Plan → ℕ → ℕ → Type 0
Found p k r =
    (r ≤ k) × (0 < r → all_known p r ≡ true) × ((h : ℕ) → 0 < h → h ≤ k → all_known p h ≡ true → (0 < r) × (r ≤ h))

-- where none is found up to k, the next is the only one up to the next
only : (p : Plan) (k : ℕ) → Found p k 0 → (h : ℕ) → 0 < h → h ≤ suc k → all_known p h ≡ true → h ≡ suc k
only p k o h l m a =
    split (eqb h (suc k)) (eqb-true h (suc k)) (λ t. absurd (omega (arith, (o.2 h l (omega (arith, eqb-false h (suc k) t)) a).0)))

found : (p : Plan) (k : ℕ) → Found p k (period_to p k)
unfolding period_to
found p zero = (omega arith, λ l. absurd (omega arith), λ h l m a. absurd (omega arith))
found p (suc k) =
    let o : Found p k (period_to p k) = found p k in
    split (eqb (period_to p k) 0)
    (λ t.
    let z = rw (eqb-true (period_to p k) 0 t) at o in
    split (all_known p (suc k)) (λ a. rw (t, a) (new z a)) (λ a. rw (t, a) (none z a)))
    (λ t. rw t (kept (period_to p k) (omega (arith, eqb-false (period_to p k) 0 t)) o))
  where
    new : Found p k 0 → all_known p (suc k) ≡ true → Found p (suc k) (suc k)
    new o a = (omega arith, λ l. a, λ h l m b. (omega arith, omega (arith, only p k o h l m b)))

    none : Found p k 0 → all_known p (suc k) ≡ false → Found p (suc k) 0
    none o a = (omega arith, λ l. absurd (omega arith), λ h l m b. absurd (clash (rw (only p k o h l m b) at b) a))

    kept : (r : ℕ) → 0 < r → Found p k r → Found p (suc k) r
    kept r l o = (omega arith, o.1, λ h m n b. split (leb h k) (λ t. o.2 h m (leb-true h k t) b) (λ t. (l, omega (arith, leb-false h k t))))

pub period-reached : (p : Plan) → 0 < period p → all_known p (period p) ≡ true
unfolding period
period-reached p = (found p (1 + p.frames * p.cells)).1

pub period-bound : (p : Plan) → period p ≤ 1 + p.frames * p.cells
unfolding period
period-bound p = (found p (1 + p.frames * p.cells)).0

-- ---- counting

-- if each that passes q passes r, and one more does, r counts more
how_many-less :
    (q r : ℕ → Bool) (n : ℕ) →
    ((i : ℕ) → i < n → q i ≡ true → r i ≡ true) →
    (x : ℕ) →
    x < n →
    q x ≡ false →
    r x ≡ true →
    how_many q n < how_many r n
unfolding how_many
how_many-less q r zero f x l a b = absurd (not-suc-le-zero l)
how_many-less q r (suc n) f x l a b =
    split (eqb x n)
    (λ t. rw (rw (eqb-true x n t) at a, rw (eqb-true x n t) at b) (omega (arith, how_many-le q r n (λ i m. f i (omega arith)))))
    (λ t.
    let o : how_many q n < how_many r n = how_many-less q r n (λ i m. f i (omega arith)) x (omega (arith, eqb-false x n t)) a b in
    split (q n) (λ c. rw (c, f n (omega arith) c) (omega arith)) (λ c. rw c (omega arith)))

-- ---- the known cells by the last frame

before : Plan → ℕ → ℕ
before p e = (e + (p.frames - 1)) % p.frames

-- the known cells after 1 + h good frames, the last of them frame e
ending : Plan → ℕ → ℕ → List Bool
ending p zero e = know_voted p e p.cells none_known
ending p (suc h) e = know_frame p e (ending p h (before p e))

module _ (p : Plan) (s : Shape p) where
  before-lt : (e : ℕ) → before p e < p.frames
  unfolding before
  before-lt e = mod-lt (e + (p.frames - 1)) s.frames-pos

  before-sum : (n : ℕ) → before p (suc n % p.frames) ≡ n % p.frames
  unfolding before
  before-sum n =
      let e : suc n + (p.frames - 1) ≡ n + p.frames = omega arith in
      mod-add-mod (suc n) p.frames (p.frames - 1) ∙ rw e (add-mod_right n p.frames)

  known-ending : (h g : ℕ) → g < p.frames → known p g (suc h) ≡ ending p h ((g + h) % p.frames)
  unfolding ending
  known-ending zero g l = rw (add-zero g, mod-eq_of_lt l) (known-first p g)
  known-ending (suc h) g l =
      let e : g + suc h ≡ suc (g + h) = omega arith in
      rw (known_next p g h, known-ending h g l, e, before-sum (g + h))

  -- each frame is the last of some
  first : (h e : ℕ) → e < p.frames → (g : ℕ) × (g < p.frames) × ((g + h) % p.frames ≡ e)
  first h e l =
      let f : suc (p.frames - 1) ≡ p.frames = omega arith in
      let q : e + (p.frames - 1) * h + h ≡ e + p.frames * h = omega (arith, rw f at (suc-mul (p.frames - 1) h)) in (
        (e + (p.frames - 1) * h) % p.frames,
        mod-lt _ s.frames-pos,
        mod-add-mod _ p.frames h ∙ rw (q, add-mul-mod_self_left e p.frames h) (mod-eq_of_lt l),
      )

  ending-length : (h e : ℕ) → length (ending p h e) ≡ most_cells
  unfolding ending
  ending-length zero e = voted-length p e p.cells none_known
  ending-length (suc h) e = frame-length p e (ending p h (before p e)) ∙ ending-length h (before p e)

  all-ending : (h : ℕ) → all_known p (suc h) ≡ true → (e : ℕ) → e < p.frames → All p.cells (ending p h e)
  all-ending h a e l x xl =
      let r = first h e l in
      rw (← r.2, ← (known-ending h r.0 r.1)) (all_known-at p (suc h) a r.0 x r.1 xl)

  ending-all : (h : ℕ) → ((e : ℕ) → e < p.frames → All p.cells (ending p h e)) → all_known p (suc h) ≡ true
  ending-all h f = all_known-all p (suc h) (λ g c gl cl. rw (known-ending h g gl) (f ((g + h) % p.frames) (mod-lt _ s.frames-pos) c cl))

  -- one good frame more, and the same last one, knows no less
  more : (h e : ℕ) → Sub p.cells (ending p h e) (ending p (suc h) e)
  unfolding ending
  more zero e = first-sub p s e _ (omega (arith, ending-length 0 (before p e)))
  more (suc h) e = frame-sub p s e _ _ (omega (arith, ending-length (suc h) (before p e))) (more h (before p e))

  -- ---- where one good frame more adds nothing, it never will

  Still : ℕ → Type 0
  Still h = (e : ℕ) → e < p.frames → Sub p.cells (ending p (suc h) e) (ending p h e)

  still_back : (h : ℕ) → Still h → (d e : ℕ) → e < p.frames → Sub p.cells (ending p (h + d) e) (ending p h e)
  unfolding Still ending
  still_back h t zero e l = rw (add-zero h) (λ x xl k. k)
  still_back h t (suc d) e l =
      let q : h + suc d ≡ suc (h + d) = omega arith in
      rw q (λ x xl k. t e l x xl (frame-sub p s e _ _ (omega (arith, ending-length h (before p e))) (still_back h t d (before p e) (before-lt e)) x xl k))

  still-known : (h d : ℕ) → Still h → all_known p (suc (h + d)) ≡ true → all_known p (suc h) ≡ true
  still-known h d t a = ending-all h (λ e l x xl. still_back h t d e l x xl (all-ending (h + d) a e l x xl))

  -- ---- it stands still somewhere: pairs of a last frame and a cell are counted, each as one number below F × C

  seen : ℕ → ℕ → Bool
  seen h i = get_or (ending p h (i / p.cells)) (i % p.cells) false

  count : ℕ → ℕ
  count h = how_many (seen h) (p.frames * p.cells)

  pair-frame : (e x : ℕ) → x < p.cells → (e * p.cells + x) / p.cells ≡ e
  pair-frame e x l = mul-add-div_right s.cells-pos e x ∙ rw (div-eq_of_lt l) (add-zero e)

  pair_lt : (e x : ℕ) → e < p.frames → x < p.cells → e * p.cells + x < p.frames * p.cells
  pair_lt e x l xl = (div-lt_iff_lt-mul s.cells-pos).0 (rw (pair-frame e x xl) l)

  seen_at : (h e x : ℕ) → x < p.cells → seen h (e * p.cells + x) ≡ get_or (ending p h e) x false
  unfolding seen
  seen_at h e x l = rw (pair-frame e x l, mul-add-mod_self_right e p.cells x, mod-eq_of_lt l)

  seen_more : (h i : ℕ) → seen h i ≡ true → seen (suc h) i ≡ true
  unfolding seen
  seen_more h i = more h (i / p.cells) (i % p.cells) (mod-lt i s.cells-pos)

  count-grows : (h i : ℕ) → i < p.frames * p.cells → seen h i ≡ false → seen (suc h) i ≡ true → count h < count (suc h)
  unfolding count
  count-grows h i = how_many-less (seen h) (seen (suc h)) (p.frames * p.cells) (λ j l. seen_more h j) i

  count-still : (h : ℕ) → count (suc h) ≤ count h → Still h
  unfolding Still
  count-still h t e l x xl k =
      split (get_or (ending p h e) x false) (λ a. a)
      (λ a. absurd (omega (arith, count-grows h (e * p.cells + x) (pair_lt e x l xl) (seen_at h e x xl ∙ a) (seen_at (suc h) e x xl ∙ k))))

  -- a count that grows at each of k steps is k at least
  stands : (k : ℕ) → count k < k → (h : ℕ) × (h < k) × Still h
  stands zero l = absurd (not-suc-le-zero l)
  stands (suc k) l =
      split (leb (count (suc k)) (count k))
      (λ t. (k, omega arith, count-still k (leb-true _ _ t)))
      (λ t. let r = stands k (omega (arith, leb-false (count (suc k)) (count k) t)) in (r.0, omega (arith, r.1), r.2))

  stood : (h : ℕ) × (h < 1 + p.frames * p.cells) × Still h
  unfolding count
  stood = stands (1 + p.frames * p.cells) (omega (arith, how_many-bound (seen (1 + p.frames * p.cells)) (p.frames * p.cells)))

  -- ---- R

  -- after no good frame no cell is known, and there is a cell
  started : (h : ℕ) → all_known p h ≡ true → 0 < h
  started zero a = absurd (clash (all_known-at p 0 a 0 0 s.frames-pos s.cells-pos) (rw (known-none p 0) (none-known 0)))
  started (suc h) a = omega arith

  -- the least count of all: where none is found up to 1 + F × C, there is none
  pub period-least : (h : ℕ) → all_known p h ≡ true → (0 < period p) × (period p ≤ h)
  unfolding period
  period-least h a = split (leb h top) (λ t. (found p top).2 h (started h a) (leb-true h top t) a) (λ t. far (leb-false h top t))
    where
      top : ℕ
      top = 1 + p.frames * p.cells

      k : ℕ
      k = stood.0

      far : top < h → (0 < period_to p top) × (period_to p top ≤ h)
      far t =
          let q : h ≡ suc (k + (h - suc k)) = omega (arith, stood.1) in
          let r = (found p top).2 (suc k) (omega arith) stood.1 (still-known k (h - suc k) stood.2 (rw q at a)) in
          (r.0, omega (arith, r.1, stood.1))

  -- cells that are all known stay so, from one first frame and from every one
  pub all-stays : (g h k : ℕ) → 0 < h → h ≤ k → All p.cells (known p g h) → All p.cells (known p g k)
  all-stays g h zero l m a = absurd (omega arith)
  all-stays g h (suc zero) l m a = let e : 1 ≡ h = omega arith in rw e a
  all-stays g h (suc (suc k)) l m a =
      split (eqb h (suc (suc k)))
      (λ t. rw (← (eqb-true h (suc (suc k)) t)) a)
      (λ t. rw (known_next p g k) (frame-all p s _ _ (omega (arith, known-length p g (suc k))) (all-stays g h (suc k) l (omega (arith, eqb-false h (suc (suc k)) t)) a)))

  pub all_known-stays : (h k : ℕ) → 0 < h → h ≤ k → all_known p h ≡ true → all_known p k ≡ true
  all_known-stays h k l m a = all_known-all p k (λ g c gl cl. all-stays g h k l m (λ x xl. all_known-at p h a g x gl xl) c cl)

  pub period-is : (r : ℕ) → all_known p r ≡ true → ((h : ℕ) → 0 < h → h < r → all_known p h ≡ false) → period p ≡ r
  period-is r a f =
      let q = period-least r a in
      split (ltb (period p) r)
      (λ t. absurd (clash (period-reached p q.0) (f (period p) q.0 (ltb-true _ _ t))))
      (λ t. omega (arith, q.1, ltb-false (period p) r t))

  -- where not all cells are known after 1 + F × C good frames, they never are
  pub period-none : (h : ℕ) → 1 + p.frames * p.cells ≤ h → all_known p h ≡ false → period p ≡ 0
  period-none h l a =
      split (eqb (period p) 0) (eqb-true (period p) 0)
      (λ t.
      let pos : 0 < period p = omega (arith, eqb-false (period p) 0 t) in
      absurd (clash (all_known-stays (period p) h pos (omega (arith, period-bound p)) (period-reached p pos)) a))
