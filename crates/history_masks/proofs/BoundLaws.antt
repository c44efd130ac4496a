-- How many histories there can be at most.
use mathlib.Core.Path.{◌≡◌, ap}
use mathlib.Core.Bool.{Bool, true, false, not}
use mathlib.Core.List.{List, ◌∷◌}
use Prim.Native.Nat.{ℕ, zero, suc, ◌*◌, ◌^◌, ◌≤◌}
use native.Mathlib.Omega.{arith}
use native.Mathlib.Nat.{add-zero, pow-suc, suc-mul, mul-le-mul_right, le_trans}
use native.Mathlib.Numerals.{add-one}
use lib.Dec.{eqb, ltb, lit≤}
use lib.ListN.{length, length-append, length-map}
use borrow.Author.Tests.{lt-ltb, ltb-true, eqb-true, eqb-false}
use Rattle.array.specs.Index.{how_many, joined}
use Rattle.array.specs.Bit.{bit}
use Rattle.array.proofs.TestLaws.{split, clash, and_left}
use Rattle.array.proofs.IndexLaws.{how_many-le}
use Rattle.history_masks.specs.Code.{histories_after}
use Rattle.history_masks.specs.Histories.{works_after, most_work}
use Rattle.history_masks.specs.Limits.{most_history_nodes}
use Rattle.history_masks.proofs.HistoryLaws.{going_on, found_below, histories-end, histories-step}

-- ---- lists one after another

module _ {A : Type 0} (f : ℕ → List A) where
  pub joined-grows : (k n : ℕ) → k ≤ n → length (joined f k) ≤ length (joined f n)
  unfolding joined
  joined-grows k zero l = let e : k ≡ 0 = omega arith in rw e (omega arith)
  joined-grows k (suc n) l =
      split (eqb k (suc n))
      (λ t. rw (eqb-true k (suc n) t) (omega arith))
      (λ t. omega (arith, joined-grows k n (omega (arith, eqb-false k (suc n) t)), length-append (joined f n) (f n)))

  -- those that pass a test have at most b entries each, the others none
  joined-few : (q : ℕ → Bool) (b n : ℕ) → ((i : ℕ) → q i ≡ false → length (f i) ≡ 0) → ((i : ℕ) → length (f i) ≤ b) → length (joined f n) ≤ how_many q n * b
  unfolding joined how_many
  joined-few q b zero none few = omega arith
  joined-few q b (suc n) none few =
      let before : length (joined f n) ≤ how_many q n * b = joined-few q b n none few in
      split (q n)
      (λ t. rw (t, add-one (how_many q n), suc-mul (how_many q n) b) (omega (arith, before, few n, length-append (joined f n) (f n))))
      (λ t. rw (t, add-zero (how_many q n)) (omega (arith, before, none n t, length-append (joined f n) (f n))))

-- ---- the masks that leave more than half of the nodes

unfoldable pub half_mask : ℕ → ℕ → Bool
half_mask nodes mask = ltb nodes (2 * how_many (λ i. not (bit mask i)) nodes)

half-many : (nodes : ℕ) → nodes ≤ most_history_nodes → how_many (half_mask nodes) (2 ^ nodes) ≤ 16
unfolding half_mask how_many bit
half-many zero l = lit≤ tt
half-many (suc zero) l = lit≤ tt
half-many (suc (suc zero)) l = lit≤ tt
half-many (suc (suc (suc zero))) l = lit≤ tt
half-many (suc (suc (suc (suc zero)))) l = lit≤ tt
half-many (suc (suc (suc (suc (suc zero))))) l = lit≤ tt
half-many (suc (suc (suc (suc (suc (suc n)))))) l = absurd (omega arith)

module _ (nodes period : ℕ) where
  -- a node that works is not bad
  pub most-half : (past : List ℕ) (mask : ℕ) → most_work nodes period past mask ≡ true → half_mask nodes mask ≡ true
  unfolding most_work half_mask works_after
  most-half past mask e =
      lt-ltb nodes (2 * how_many (λ i. not (bit mask i)) nodes)
      (omega (arith, ltb-true nodes (2 * how_many (works_after period past mask) nodes) e, how_many-le (works_after period past mask) (λ i. not (bit mask i)) nodes (λ i l t. and_left (not (bit mask i)) _ t)))

  going-none : (past : List ℕ) (k mask : ℕ) → half_mask nodes mask ≡ false → length (going_on nodes period past k mask) ≡ 0
  going-none past k mask h = split (most_work nodes period past mask) (λ e. absurd (clash (most-half past mask e) h)) (λ e. rw e)

  going-few :
      (past : List ℕ) (k : ℕ) →
      ((mask : ℕ) → length (histories_after nodes period (mask ∷ past) k) ≤ 16 ^ k) →
      (mask : ℕ) → length (going_on nodes period past k mask) ≤ 16 ^ k
  going-few past k few mask =
      split (most_work nodes period past mask)
      (λ e. rw e (omega (arith, few mask, length-map (histories_after nodes period (mask ∷ past) k) (λ (later : List ℕ). mask ∷ later))))
      (λ e. rw e (omega arith))

  pub histories-few : nodes ≤ most_history_nodes → (past : List ℕ) (k : ℕ) → length (histories_after nodes period past k) ≤ 16 ^ k
  histories-few few past zero = rw (histories-end nodes period past) (omega arith)
  histories-few few past (suc k) =
      rw (histories-step nodes period past k, pow-suc 16 k)
      (le_trans
      (joined-few (going_on nodes period past k) (half_mask nodes) (16 ^ k) (2 ^ nodes) (going-none past k) (going-few past k (λ mask. histories-few few (mask ∷ past) k)))
      (omega (arith, mul-le-mul_right (16 ^ k) (half-many nodes few))))

  -- those found by a mask on the way are no more than all
  pub found-few : nodes ≤ most_history_nodes → (past : List ℕ) (k masks : ℕ) → masks ≤ 2 ^ nodes → length (found_below nodes period past k masks) ≤ 16 ^ suc k
  found-few few past k masks l =
      omega (arith, joined-grows (going_on nodes period past k) masks (2 ^ nodes) l, ap length (histories-step nodes period past k), histories-few few past (suc k))
