-- Laws of the histories: those that go on from a past are found mask by mask, those of a mask that leaves too few working not at all.
use mathlib.Core.Path.{◌≡◌, refl, ◌∙◌}
use mathlib.Core.Bool.{Bool, true, false, cond}
use mathlib.Core.List.{List, [], ◌∷◌, ◌++◌, map, append-nil}
use Prim.Native.Nat.{ℕ, zero, suc, ◌+◌, ◌^◌}
use native.Mathlib.Omega.{arith}
use lib.Dec.{eqb}
use lib.ListN.{take}
use borrow.Author.Tests.{eq-eqb, ne_eqb}
use Rattle.array.specs.Index.{joined}
use Rattle.array.proofs.TestLaws.{split, clash}
use Rattle.array.proofs.PlacesLaws.{joined_same, joined-more}
use Rattle.system.specs.Counts.{good_count}
use Rattle.system.specs.Demand.{good_in}
use Rattle.system.proofs.CountLaws.{count_most, count-least, count-good}
use Rattle.history_masks.specs.Code.{histories_after}
use Rattle.history_masks.specs.Histories.{works_after, most_work, lived, sequences, selected}

-- ---- those of a list that pass a test

module _ {A : Type 0} (q : A → Bool) where
  selected-append : (l m : List A) → selected q (l ++ m) ≡ selected q l ++ selected q m
  unfolding selected
  selected-append [] m = refl
  selected-append (x ∷ l) m =
      let later : selected q (l ++ m) ≡ selected q l ++ selected q m = selected-append l m in
      split (q x) (λ e. rw (e, later)) (λ e. rw (e, later))

  selected-joined : (f : ℕ → List A) (n : ℕ) → selected q (joined f n) ≡ joined (λ i. selected q (f i)) n
  unfolding joined selected
  selected-joined f zero = refl
  selected-joined f (suc n) = selected-append (joined f n) (f n) ∙ rw (selected-joined f n)

module _ {A B : Type 0} (g : A → B) (q : B → Bool) where
  -- of a list's images
  selected-none : (l : List A) → ((x : A) → q (g x) ≡ false) → selected q (map g l) ≡ []
  unfolding selected
  selected-none [] e = refl
  selected-none (x ∷ l) e = rw (e x) (selected-none l e)

  selected-images : (r : A → Bool) (l : List A) → ((x : A) → q (g x) ≡ r x) → selected q (map g l) ≡ map g (selected r l)
  unfolding selected
  selected-images r [] e = refl
  selected-images r (x ∷ l) e =
      let later : selected q (map g l) ≡ map g (selected r l) = selected-images r l e in
      rw (e x) (split (r x) (λ t. rw (t, later)) (λ t. rw (t, later)))

-- ---- one frame more

-- the histories that go on with a mask
abbrev pub going_on : ℕ → ℕ → List ℕ → ℕ → ℕ → List (List ℕ)
going_on nodes period past k mask =
    cond (most_work nodes period past mask) (map (λ (later : List ℕ). mask ∷ later) (histories_after nodes period (mask ∷ past) k)) []

-- with one of the first masks
abbrev pub found_below : ℕ → ℕ → List ℕ → ℕ → ℕ → List (List ℕ)
found_below nodes period past k masks = joined (going_on nodes period past k) masks

module _ (nodes period : ℕ) where
  pub histories-end : (past : List ℕ) → histories_after nodes period past 0 ≡ [] ∷ []
  unfolding histories_after sequences selected lived
  histories-end past = refl

  selected_step : (past : List ℕ) (k mask : ℕ) →
      selected (lived nodes period past) (map (λ (later : List ℕ). mask ∷ later) (sequences nodes k)) ≡ going_on nodes period past k mask
  unfolding histories_after lived
  selected_step past k mask =
      split (most_work nodes period past mask)
      (λ e. rw e (selected-images (λ (later : List ℕ). mask ∷ later) (lived nodes period past) (lived nodes period (mask ∷ past)) (sequences nodes k) (λ x. rw e)))
      (λ e. rw e (selected-none (λ (later : List ℕ). mask ∷ later) (lived nodes period past) (sequences nodes k) (λ x. rw e)))

  pub histories-step : (past : List ℕ) (k : ℕ) → histories_after nodes period past (suc k) ≡ found_below nodes period past k (2 ^ nodes)
  unfolding histories_after sequences
  histories-step past k = selected-joined (lived nodes period past) (λ mask. map (λ (later : List ℕ). mask ∷ later) (sequences nodes k)) (2 ^ nodes) ∙ joined_same _ _ (2 ^ nodes) (λ mask l. selected_step past k mask)

  module _ (past : List ℕ) (k mask : ℕ) where
    pub found-hit :
        most_work nodes period past mask ≡ true →
        found_below nodes period past k (mask + 1)
        ≡ found_below nodes period past k mask ++ map (λ (later : List ℕ). mask ∷ later) (histories_after nodes period (mask ∷ past) k)
    found-hit e = joined-more (going_on nodes period past k) mask ∙ rw e

    pub found-miss : most_work nodes period past mask ≡ false → found_below nodes period past k (mask + 1) ≡ found_below nodes period past k mask
    found-miss e = joined-more (going_on nodes period past k) mask ∙ rw e (append-nil (found_below nodes period past k mask))

-- ---- who works, by the masks of the last R frames: demand 3's own word

module _ (period : ℕ) (past : List ℕ) where
  full-is-good : (i : ℕ) → eqb (good_count period past i) period ≡ good_in i (take period past)
  full-is-good i =
      split (good_in i (take period past))
      (λ g. rw g (eq-eqb (good_count period past i) period (omega (arith, count_most period i past, count-least period i period past (omega arith) g))))
      (λ g. rw g (ne_eqb (good_count period past i) period (λ e. clash (count-good period i period past (omega (arith, e))) g)))

  pub works-good : (mask i : ℕ) → works_after period past mask i ≡ good_in i (mask ∷ take period past)
  unfolding works_after good_in
  works-good mask i = rw (full-is-good i)
