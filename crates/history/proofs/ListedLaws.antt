-- The histories are listed once each, in ascending order; nothing else is listed and nothing is missing.
use mathlib.Core.Path.{◌≡◌, refl, sym, ap, ◌∙◌, subst}
use mathlib.Core.Bool.{Bool, true}
use mathlib.Core.Logic.{inl, inr, ⊎_elim}
use mathlib.Core.List.{List, [], ◌∷◌, ◌++◌, map, Memᴰ, append_assoc, flatten}
use Prim.Native.Nat.{ℕ, zero, suc, ◌+◌, ◌*◌, ◌^◌, ◌<◌}
use native.Mathlib.Omega.{arith}
use native.Mathlib.Nat.{one-le-pow, zero-mul, suc-mul}
use lib.Dec.{eqb, ltb, lit<}
use lib.ListN.{length, length-append, get_or, take, replicate, length-replicate}
use borrow.Author.Tests.{lt-ltb, ltb-true, eqb-true, eqb-false}
use lib.Seq.{get_or-append-add}
use Rattle.array.specs.Index.{how_many, joined, all_in, from}
use Rattle.array.proofs.TestLaws.{split, clash, and_left, and_right, and_both}
use Rattle.array.proofs.IndexLaws.{how_many-every, all_in-take}
use Rattle.array.proofs.PlacesLaws.{from-held, from-same}
use Rattle.plan.specs.Known.{period}
use Rattle.plan.proofs.AcceptedLaws.{shape-of-accepted}
use Rattle.system.proofs.DemandLaws.{zero-good}
use Rattle.history.specs.Answers.{plan_histories}
use Rattle.history_masks.specs.Histories.{works_after, most_work, lived, sequences, selected, histories}
use Rattle.history_masks.proofs.HistoryLaws.{works-good}
use Rattle.history.specs.Listed.{Precedes, Ascending, InOrder, Once, Exactly, NoneBad, InPlace}

-- ---- what is in a list

module _ {A : Type 0} where
  module _ (q : A → Bool) {x : A} where
    selected-in : (l : List A) → Memᴰ x (selected q l) → Memᴰ x l × (q x ≡ true)
    unfolding selected
    selected-in [] = λ m. absurd (mathlib.Core.List.Memᴰ.not-nil m)
    selected-in (y ∷ l) =
        let later : Memᴰ x (selected q l) → Memᴰ x l × (q x ≡ true) = selected-in l in
        split (q y)
        (λ e. rw e (λ m. ⊎_elim (λ p. (mathlib.Core.List.Memᴰ.head p, ap q p ∙ e)) (λ n. (mathlib.Core.List.Memᴰ.tail (later n).0, (later n).1)) (mathlib.Core.List.Memᴰ.cases_cons m)))
        (λ e. rw e (λ m. (mathlib.Core.List.Memᴰ.tail (later m).0, (later m).1)))

    selected-all : (l : List A) → Memᴰ x l → q x ≡ true → Memᴰ x (selected q l)
    unfolding selected
    selected-all [] m t = absurd (mathlib.Core.List.Memᴰ.not-nil m)
    selected-all (y ∷ l) m t =
        let later : Memᴰ x l → Memᴰ x (selected q l) = λ n. selected-all l n t in
        split (q y)
        (λ e. rw e (⊎_elim (λ p. mathlib.Core.List.Memᴰ.head p) (λ n. mathlib.Core.List.Memᴰ.tail (later n)) (mathlib.Core.List.Memᴰ.cases_cons m)))
        (λ e. rw e (⊎_elim (λ p. absurd (clash (sym (ap q p) ∙ t) e)) later (mathlib.Core.List.Memᴰ.cases_cons m)))

  -- one after another: by its place
  joined_in : {x : A} (f : ℕ → List A) (n : ℕ) → Memᴰ x (joined f n) → (i : ℕ) × (i < n) × Memᴰ x (f i)
  unfolding joined
  joined_in f zero m = absurd (mathlib.Core.List.Memᴰ.not-nil m)
  joined_in {x} f (suc n) m =
      ⊎_elim
      (λ (a : Memᴰ x (joined f n)). let r : (i : ℕ) × (i < n) × Memᴰ x (f i) = joined_in f n a in (r.0, omega (arith, r.1), r.2))
      (λ b. (n, omega arith, b))
      (mathlib.Core.List.Memᴰ.append_cases (joined f n) m)

  joined-has : {x : A} (f : ℕ → List A) (n i : ℕ) → i < n → Memᴰ x (f i) → Memᴰ x (joined f n)
  unfolding joined
  joined-has f zero i l m = absurd (omega arith)
  joined-has {x} f (suc n) i l m =
      split (eqb i n)
      (λ t. mathlib.Core.List.Memᴰ.append_right (joined f n) (subst (λ (j : ℕ). Memᴰ x (f j)) (eqb-true i n t) m))
      (λ t. mathlib.Core.List.Memᴰ.append_left (f n) (joined-has f n i (omega (arith, eqb-false i n t)) m))

in_list : (hs : List (List ℕ)) (i : ℕ) → i < length hs → Memᴰ (get_or hs i []) hs
in_list [] i l = absurd (omega arith)
in_list (h ∷ hs) zero l = mathlib.Core.List.Memᴰ.head refl
in_list (h ∷ hs) (suc i) l = mathlib.Core.List.Memᴰ.tail (in_list hs i (omega arith))

-- ---- all sequences

module _ (nodes : ℕ) where
  sequence-is : (k : ℕ) (h : List ℕ) → Memᴰ h (sequences nodes k) → (length h ≡ k) × (all_in (λ mask. ltb mask (2 ^ nodes)) h ≡ true)
  unfolding sequences all_in
  sequence-is zero h m =
      ⊎_elim (λ p. rw p (refl, refl)) (λ n. absurd (mathlib.Core.List.Memᴰ.not-nil n)) (mathlib.Core.List.Memᴰ.cases_cons m)
  sequence-is (suc k) h m =
      let r = joined_in (λ mask. map (λ (later : List ℕ). mask ∷ later) (sequences nodes k)) (2 ^ nodes) m in
      let s = mathlib.Core.List.Memᴰ.of_map (λ (later : List ℕ). r.0 ∷ later) (sequences nodes k) r.2 in
      let t = sequence-is k s.0 s.1 in
      rw (← s.2) (ap suc t.0, and_both (lt-ltb r.0 (2 ^ nodes) r.1) t.1)

  sequence-has : (k : ℕ) (h : List ℕ) → length h ≡ k → all_in (λ mask. ltb mask (2 ^ nodes)) h ≡ true → Memᴰ h (sequences nodes k)
  unfolding sequences all_in
  sequence-has zero [] e a = mathlib.Core.List.Memᴰ.head refl
  sequence-has zero (mask ∷ h) e a = absurd (omega (arith, e))
  sequence-has (suc k) [] e a = absurd (omega (arith, e))
  sequence-has (suc k) (mask ∷ h) e a =
      joined-has (λ m. map (λ (later : List ℕ). m ∷ later) (sequences nodes k)) (2 ^ nodes) mask
      (ltb-true mask (2 ^ nodes) (and_left (ltb mask (2 ^ nodes)) _ a))
      (mathlib.Core.List.Memᴰ.map (λ (later : List ℕ). mask ∷ later) (sequence-has k h (omega (arith, e)) (and_right (ltb mask (2 ^ nodes)) _ a)))

pub exactly : Exactly
unfolding histories
exactly nodes period k h = (
  λ m.
      let r = selected-in (lived nodes period []) (sequences nodes k) m in
      let s = sequence-is nodes k h r.0 in
      (s.0, s.1, r.1),
  λ t. selected-all (lived nodes period []) (sequences nodes k) (sequence-has nodes k h t.0 t.1) t.2,
)

-- ---- ascending

pub precedes-irreflexive : (h : List ℕ) → Precedes h h → ⊥
unfolding Precedes
precedes-irreflexive [] b = b
precedes-irreflexive (a ∷ h) b = ⊎_elim (λ l. absurd (omega arith)) (λ e. precedes-irreflexive h e.1) b

ascending-append : (l m : List (List ℕ)) → Ascending l → Ascending m → ((h j : List ℕ) → Memᴰ h l → Memᴰ j m → Precedes h j) → Ascending (l ++ m)
unfolding Ascending
ascending-append [] m a b c = b
ascending-append (x ∷ l) m a b c =
    (λ j n. ⊎_elim (a.0 j) (λ w. c x j (mathlib.Core.List.Memᴰ.head refl) w) (mathlib.Core.List.Memᴰ.append_cases l n), ascending-append l m a.1 b (λ h j p q. c h j (mathlib.Core.List.Memᴰ.tail p) q))

ascending-selected : (q : List ℕ → Bool) (l : List (List ℕ)) → Ascending l → Ascending (selected q l)
unfolding Ascending selected
ascending-selected q [] a = tt
ascending-selected q (x ∷ l) a =
    let later : Ascending (selected q l) = ascending-selected q l a.1 in
    split (q x) (λ e. rw e (λ j m. a.0 j (selected-in q l m).0, later)) (λ e. rw e later)

ascending-lead : (mask : ℕ) (l : List (List ℕ)) → Ascending l → Ascending (map (λ (later : List ℕ). mask ∷ later) l)
unfolding Ascending Precedes
ascending-lead mask [] a = tt
ascending-lead mask (x ∷ l) a =
    (λ j m. let r = mathlib.Core.List.Memᴰ.of_map (λ (later : List ℕ). mask ∷ later) l m in subst (λ (y : List ℕ). Precedes (mask ∷ x) y) r.2 (inr (refl, a.0 r.0 r.1)), ascending-lead mask l a.1)

ascending-joined : (l : List (List ℕ)) (n : ℕ) → Ascending l → Ascending (joined (λ mask. map (λ (later : List ℕ). mask ∷ later) l) n)
unfolding joined Ascending Precedes
ascending-joined l zero a = tt
ascending-joined l (suc n) a =
    ascending-append (joined (λ mask. map (λ (later : List ℕ). mask ∷ later) l) n) (map (λ (later : List ℕ). n ∷ later) l)
    (ascending-joined l n a)
    (ascending-lead n l a)
    (λ h j p q.
    let r = joined_in (λ mask. map (λ (later : List ℕ). mask ∷ later) l) n p in
    let s = mathlib.Core.List.Memᴰ.of_map (λ (later : List ℕ). r.0 ∷ later) l r.2 in
    let t = mathlib.Core.List.Memᴰ.of_map (λ (later : List ℕ). n ∷ later) l q in
    rw (← s.2, ← t.2) (inl r.1))

ascending-sequences : (nodes k : ℕ) → Ascending (sequences nodes k)
unfolding sequences Ascending
ascending-sequences nodes zero = (λ j m. absurd (mathlib.Core.List.Memᴰ.not-nil m), tt)
ascending-sequences nodes (suc k) = ascending-joined (sequences nodes k) (2 ^ nodes) (ascending-sequences nodes k)

pub in_order : InOrder
unfolding histories
in_order nodes period k = ascending-selected (lived nodes period []) (sequences nodes k) (ascending-sequences nodes k)

ascending-at : (hs : List (List ℕ)) → Ascending hs → (i j : ℕ) → i < j → j < length hs → Precedes (get_or hs i []) (get_or hs j [])
unfolding Ascending
ascending-at [] a i j l m = absurd (omega arith)
ascending-at (h ∷ hs) a i zero l m = absurd (omega arith)
ascending-at (h ∷ hs) a zero (suc j) l m = a.0 (get_or hs j []) (in_list hs j (omega arith))
ascending-at (h ∷ hs) a (suc i) (suc j) l m = ascending-at hs a.1 i j (omega arith) (omega arith)

pub once : Once
once nodes period k i j l m e =
    precedes-irreflexive (get_or (histories nodes period k) j [])
    (subst (λ (h : List ℕ). Precedes h (get_or (histories nodes period k) j [])) e (ascending-at (histories nodes period k) (in_order nodes period k) i j l m))

-- ---- no node is ever bad

module _ (nodes period : ℕ) (some : 0 < nodes) where
  pub none-lived : (k : ℕ) (past : List ℕ) → all_in (λ mask. eqb mask 0) past ≡ true → lived nodes period past (replicate k 0) ≡ true
  unfolding lived most_work all_in
  none-lived zero past a = refl
  none-lived (suc k) past a =
      and_both
      (lt-ltb nodes (2 * how_many (works_after period past 0) nodes)
      (omega (arith, some, how_many-every (works_after period past 0) nodes (λ i l. works-good period past 0 i ∙ zero-good i (0 ∷ take period past) (all_in-take (λ mask. eqb mask 0) (suc period) (0 ∷ past) a)))))
      (none-lived k (0 ∷ past) a)

  zeros-fit : (k : ℕ) → all_in (λ mask. ltb mask (2 ^ nodes)) (replicate k 0) ≡ true
  unfolding all_in
  zeros-fit zero = refl
  zeros-fit (suc k) = and_both (lt-ltb 0 (2 ^ nodes) (one-le-pow nodes 2 (lit< tt))) (zeros-fit k)

pub none-bad : NoneBad
unfolding all_in plan_histories
none-bad p accept k =
    let some : 0 < p.nodes = omega (arith, (shape-of-accepted p accept).nodes-low) in
    (exactly p.nodes (period p) k (replicate k 0)).1 (length-replicate k 0, zeros-fit p.nodes (period p) some k, none-lived p.nodes (period p) some k [] refl)

-- ---- as many bytes as histories times frames

masks-length : (k : ℕ) (l : List (List ℕ)) → ((h : List ℕ) → Memᴰ h l → length h ≡ k) → length (flatten l) ≡ length l * k
unfolding flatten
masks-length k [] e = sym (zero-mul k)
masks-length k (h ∷ l) e =
    length-append h (flatten l) ∙ rw (suc-mul (length l) k, e h (mathlib.Core.List.Memᴰ.head refl), masks-length k l (λ j m. e j (mathlib.Core.List.Memᴰ.tail m))) (omega arith)

pub histories-length : (nodes period k : ℕ) → length (flatten (histories nodes period k)) ≡ length (histories nodes period k) * k
histories-length nodes period k = masks-length k (histories nodes period k) (λ h m. ((exactly nodes period k h).0 m).0)

-- ---- the masks of a history stand at its place

block_at : (n : ℕ) (hs : List (List ℕ)) (rest : List ℕ) → ((i : ℕ) → i < length hs → length (get_or hs i []) ≡ n) → (k : ℕ) → k < length hs → from 0 (flatten hs ++ rest) (k * n) n ≡ get_or hs k []
unfolding flatten
block_at n [] rest each k l = absurd (omega arith)
block_at n (h ∷ hs) rest each zero l =
    from-held 0 n (each 0 (omega arith)) (record { front = []; back = flatten hs ++ rest; whole = append_assoc h (flatten hs) rest; size = sym (zero-mul n) })
block_at n (h ∷ hs) rest each (suc k) l =
    let later : from 0 (flatten hs ++ rest) (k * n) n ≡ get_or hs k [] = block_at n hs rest (λ i j. each (suc i) (omega arith)) k (omega arith) in
    let long : length h ≡ n = each 0 (omega arith) in
    from-same 0 ((h ++ flatten hs) ++ rest) (flatten hs ++ rest) (suc k * n) (k * n) n
    (λ i j. ap (λ (x : List ℕ). get_or x (suc k * n + i) 0) (append_assoc h (flatten hs) rest)
    ∙ ap (λ (m : ℕ). get_or (h ++ (flatten hs ++ rest)) m 0) (let e : suc k * n + i ≡ length h + (k * n + i) = omega (arith, suc-mul k n, long) in e)
    ∙ get_or-append-add h (flatten hs ++ rest) (k * n + i) 0)
    ∙ later

pub in_place : InPlace
in_place nodes period k i l rest =
    block_at k (histories nodes period k) rest (λ j m. ((exactly nodes period k (get_or (histories nodes period k) j [])).0 (in_list (histories nodes period k) j m)).0) i l
