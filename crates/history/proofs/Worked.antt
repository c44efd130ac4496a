-- Histories worked out: plan K's of three frames, and those of a press of two.
use mathlib.Core.Path.{◌≡◌, refl, ap, ◌∙◌}
use mathlib.Core.Bool.{true, false}
use mathlib.Core.List.{List, [], ◌∷◌}
use Prim.Native.Nat.{ℕ, zero, suc}
use lib.Dec.{eqb, lit<}
use lib.ListN.{length, replicate}
use Rattle.array.specs.Index.{how_many, joined, all_in}
use Rattle.array.specs.Bit.{bit}
use Rattle.array.proofs.TestLaws.{split, clash, and_left}
use Rattle.system.specs.Counts.{count_after, good_count}
use Rattle.history_masks.specs.Code.{histories_after}
use Rattle.history_masks.specs.Histories.{works_after, most_work, lived, sequences, selected, histories}
use Rattle.history_masks.proofs.HistoryLaws.{histories-end, histories-step}
use Rattle.history_masks.proofs.BoundLaws.{half_mask, most-half}
use Rattle.history.proofs.ListedLaws.{none-lived}

-- plan K: three nodes, R = 3 (document 01's short table, row 1). All frames good, or one and the same node bad in some of the three: 1 + 3 × 7
abbrev histories_k : List (List ℕ)
histories_k =
    (0 ∷ 0 ∷ 0 ∷ []) ∷ (0 ∷ 0 ∷ 1 ∷ []) ∷ (0 ∷ 0 ∷ 2 ∷ []) ∷ (0 ∷ 0 ∷ 4 ∷ []) ∷ (0 ∷ 1 ∷ 0 ∷ []) ∷ (0 ∷ 1 ∷ 1 ∷ [])
    ∷ (0 ∷ 2 ∷ 0 ∷ []) ∷ (0 ∷ 2 ∷ 2 ∷ []) ∷ (0 ∷ 4 ∷ 0 ∷ []) ∷ (0 ∷ 4 ∷ 4 ∷ []) ∷ (1 ∷ 0 ∷ 0 ∷ []) ∷ (1 ∷ 0 ∷ 1 ∷ [])
    ∷ (1 ∷ 1 ∷ 0 ∷ []) ∷ (1 ∷ 1 ∷ 1 ∷ []) ∷ (2 ∷ 0 ∷ 0 ∷ []) ∷ (2 ∷ 0 ∷ 2 ∷ []) ∷ (2 ∷ 2 ∷ 0 ∷ []) ∷ (2 ∷ 2 ∷ 2 ∷ [])
    ∷ (4 ∷ 0 ∷ 0 ∷ []) ∷ (4 ∷ 0 ∷ 4 ∷ []) ∷ (4 ∷ 4 ∷ 0 ∷ []) ∷ (4 ∷ 4 ∷ 4 ∷ []) ∷ []

pub k-histories : histories 3 3 3 ≡ histories_k
unfolding histories selected sequences joined lived most_work how_many works_after bit good_count count_after
k-histories = refl

pub k-has-22 : length (histories 3 3 3) ≡ 22
k-has-22 = ap length k-histories

-- a press of two has one history of each length, whatever its recovery period
module _ (period : ℕ) where
  only_zero : (past : List ℕ) (mask : ℕ) → half_mask 2 mask ≡ false → most_work 2 period past mask ≡ false
  only_zero past mask h = split (most_work 2 period past mask) (λ t. absurd (clash (most-half 2 period past mask t) h)) (λ t. t)

  zero-goes-on : (past : List ℕ) → all_in (λ mask. eqb mask 0) past ≡ true → most_work 2 period past 0 ≡ true
  unfolding lived
  zero-goes-on past a = and_left (most_work 2 period past 0) _ (none-lived 2 period (lit< tt) 1 past a)

  one-bad : half_mask 2 1 ≡ false
  unfolding half_mask how_many bit
  one-bad = refl

  other-bad : half_mask 2 2 ≡ false
  unfolding half_mask how_many bit
  other-bad = refl

  both-bad : half_mask 2 3 ≡ false
  unfolding half_mask how_many bit
  both-bad = refl

  two-after : (k : ℕ) (past : List ℕ) → all_in (λ mask. eqb mask 0) past ≡ true → histories_after 2 period past k ≡ replicate k 0 ∷ []
  unfolding joined all_in
  two-after zero past a = histories-end 2 period past
  two-after (suc k) past a =
      let later : histories_after 2 period (0 ∷ past) k ≡ replicate k 0 ∷ [] = two-after k (0 ∷ past) a in
      histories-step 2 period past k
      ∙ rw (zero-goes-on past a, only_zero past 1 one-bad, only_zero past 2 other-bad, only_zero past 3 both-bad, later)

pub two-one : (period k : ℕ) → histories 2 period k ≡ replicate k 0 ∷ []
unfolding histories histories_after all_in
two-one period k = two-after period k [] refl
