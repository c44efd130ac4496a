-- Laws of the agreement on rows: counter and columns together give the frame's least.
use Rattle.std.specs.Prelude.{Option, Some, unwrap_or}
use mathlib.Core.Path.{◌≡◌, refl, sym, ap, ◌∙◌}
use mathlib.Core.Bool.{Bool, true, false, not, cond}
use mathlib.Core.List.{List}
use Prim.Native.Nat.{ℕ, zero, suc, ◌+◌, ◌≤◌, ◌<◌}
use native.Mathlib.Omega.{arith}
use native.Mathlib.Nat.{not-suc-le-zero}
use native.Mathlib.Numerals.{add-one}
use lib.Dec.{eqb}
use lib.ListN.{get_or}
use borrow.Author.Tests.{eqb-true, eqb-false, not-true}
use Rattle.array.specs.Index.{all_below, lesser, least}
use Rattle.array.proofs.IndexLaws.{all_below-at, all_below-not}
use Rattle.array.specs.Bit.{bit}
use Rattle.array.proofs.TestLaws.{split, and_left, and_right, and_both}
use Rattle.array.proofs.LeastLaws.{least-below, least-of, least-missing, least-of-taken}
use Rattle.plan.specs.declared.Sizes.{Sizes}
use Rattle.ballot.specs.Majority.{majority}
use Rattle.ballot.proofs.MajorityLaws.{no-some, holders-some, majority-some}
use Rattle.ballot.proofs.AgreementLaws.{agreement-bound}
use Rattle.row_counter.specs.Code.{frame_before, agreed_frame, counter_after, counter_agreement}
use Rattle.row_word.specs.Code.{fault_word, is_good, good_only, heard_word}
use Rattle.row_word.proofs.HeardLaws.{good_none, heard-agreement}
use Rattle.row_vote.specs.Code.{voted_at, sent_word, takes, word_agreement, sent_frame, row_agreement, columns_least}
use Rattle.row_vote.proofs.VoteLaws.{agreed-some}

-- a value that is decided has a good sender
decided-good : (mask n : ℕ) (w : ℕ → ℕ) (x : ℕ) → majority (good_only mask w) n ≡ Some x → (j : ℕ) × (j < n) × (is_good mask j ≡ true)
decided-good mask n w x e =
    let h = holders-some (good_only mask w) n x (omega (arith, majority-some (good_only mask w) n x e)) in
    (h.0, h.1, split (bit mask h.0) (λ t. absurd (no-some (sym (good_none mask w h.0 (rw t)) ∙ h.2))) (λ t. rw t))

-- where a frame is agreed, one is good
pub agreed-good :
    (s : Sizes) (mask : ℕ) (counters : List ℕ) {r : ℕ} →
    Some r ≡ agreed_frame s.frames (majority (good_only mask (λ j. get_or counters (suc j) 0)) s.nodes) →
    (j : ℕ) × (j < s.nodes) × (is_good mask j ≡ true)
agreed-good s mask counters e =
    let a = agreed-some s.frames _ e in
    decided-good mask s.nodes (λ j. get_or counters (suc j) 0) a.0 a.1

-- ---- column by column

module _ (votes : List Bool) (s : Sizes) (mask : ℕ) (faults : List ℕ) (sent frame : ℕ → ℕ) (cells : List ℕ) (low : ℕ) where
  abbrev lows : ℕ → ℕ
  lows = columns_least votes s mask faults sent frame cells low

  abbrev word : ℕ → ℕ → ℕ
  word = word_agreement votes s mask faults sent cells

  pub columns-none : low ≡ lows 0
  unfolding columns_least
  columns-none = refl

  module _ (c : ℕ) {agreed : ℕ} (h : agreed ≡ lows c) where
    pub columns-next : {r : ℕ} → r ≡ lesser agreed (least (takes votes mask frame c) (word c) s.nodes) → r ≡ lows (c + 1)
    unfolding columns_least
    columns-next e = rw (add-one c, ← h) e

    -- no node votes on it
    pub columns-skip : ((i : ℕ) → i < s.nodes → takes votes mask frame c i ≡ false) → agreed ≡ lows (c + 1)
    unfolding columns_least lesser
    columns-skip f = rw (add-one c, least-missing (takes votes mask frame c) (word c) s.nodes f) h

  columns-below :
      (k y : ℕ) → y ≤ lows k → (y ≤ low) × ((c i : ℕ) → c < k → i < s.nodes → takes votes mask frame c i ≡ true → y ≤ word c i)
  unfolding columns_least
  columns-below zero y h = (h, λ c i l. absurd (not-suc-le-zero l))
  columns-below (suc k) y h =
      let b = least-below (takes votes mask frame k) (word k) s.nodes (lows k) y h in
      let r = columns-below k y b.0 in
      (r.0, λ c i l m t. split (eqb c k) (λ q. rw (eqb-true c k q) (b.1 i m (rw (eqb-true c k q) at t))) (λ q. r.1 c i (omega (arith, eqb-false c k q)) m t))

  columns-above :
      (k y : ℕ) → y ≤ low → ((c i : ℕ) → c < k → i < s.nodes → takes votes mask frame c i ≡ true → y ≤ word c i) → y ≤ lows k
  unfolding columns_least
  columns-above zero y h f = h
  columns-above (suc k) y h f =
      least-of (takes votes mask frame k) (word k) (λ (a : ℕ). y ≤ a) s.nodes (lows k)
      (columns-above k y h (λ c i l. f c i (omega arith))) (λ i l t. f k i (omega arith) l t)

-- ---- the frame's least, by the counters and the columns

module _
    (votes : List Bool) (s : Sizes) (mask : ℕ) (faults counters cells : List ℕ) (sent frame : ℕ → ℕ)
    (sent_is : (j : ℕ) → j < s.nodes → sent j ≡ frame_before s.frames (get_or counters (suc j) 0))
    (frame_is : (i : ℕ) → i < s.nodes → bit mask i ≡ false → frame i ≡ frame_before s.frames (counter_after s mask faults counters i))
  where
    abbrev row : ℕ → ℕ
    row = row_agreement votes s mask faults counters cells

    abbrev all : Option ℕ
    all = least (is_good mask) row s.nodes

    -- the columns of each good node that it votes on, and its agreement on them
    word-is : (c i : ℕ) → word_agreement votes s mask faults sent cells c i ≡ word_agreement votes s mask faults (sent_frame votes s mask faults counters cells) cells c i
    unfolding word_agreement
    word-is c i =
        heard-agreement mask s.nodes (sent_word votes sent cells c) (sent_word votes (sent_frame votes s mask faults counters cells) cells c) (λ j l. rw (sent_is j l))
        (fault_word s mask faults (suc c) i)

    row_below :
        (y i : ℕ) → y ≤ row i → i < s.nodes → is_good mask i ≡ true →
        (y ≤ counter_agreement s mask faults counters i) × ((c : ℕ) → c < s.cells → voted_at votes (frame i) c ≡ true → y ≤ word_agreement votes s mask faults sent cells c i)
    unfolding row_agreement
    row_below y i h l g =
        let b = least-below _ _ s.cells (counter_agreement s mask faults counters i) y h in
        (b.0, λ c m t. rw (word-is c i) (b.1 c m (ap (λ (f : ℕ). voted_at votes f c) (sym (frame_is i l (not-true (bit mask i) g))) ∙ t)))

    row-above :
        (y i : ℕ) → i < s.nodes → is_good mask i ≡ true → y ≤ counter_agreement s mask faults counters i →
        ((c : ℕ) → c < s.cells → voted_at votes (frame i) c ≡ true → y ≤ word_agreement votes s mask faults sent cells c i) → y ≤ row i
    unfolding row_agreement
    row-above y i l g h f =
        least-of _ _ (λ (a : ℕ). y ≤ a) s.cells (counter_agreement s mask faults counters i) h
        (λ c m t. rw (← word-is c i) (f c m (ap (λ (k : ℕ). voted_at votes k c) (frame_is i l (not-true (bit mask i) g)) ∙ t)))

    module _ {low : ℕ} (counted : low ≡ lesser s.nodes (least (is_good mask) (counter_agreement s mask faults counters) s.nodes)) where
      abbrev given : ℕ
      given = columns_least votes s mask faults sent frame cells low s.cells

      pub rows-agreed : (j : ℕ) → j < s.nodes → is_good mask j ≡ true → given ≡ unwrap_or all 0
      unfolding counter_agreement
      rows-agreed j l g =
          omega (
            arith,
            least-of-taken (is_good mask) row s.nodes j s.nodes l g
                (omega (arith, (row_below (row j) j (omega arith) l g).0, agreement-bound (heard_word s mask faults (λ k. get_or counters (suc k) 0) 0 j) s.nodes)),
            least-of (is_good mask) row (λ (k : ℕ). given ≤ k) s.nodes s.nodes up.0
                (λ i m t. row-above given i m t (up.1 i m t) (λ c n v. down.1 c i n m (and_both t v))),
            columns-above votes s mask faults sent frame cells low s.cells low-all
                (rw counted (least-of (is_good mask) counter (λ (k : ℕ). low-all ≤ k) s.nodes s.nodes b.0 (λ i m t. (row_below low-all i (b.1 i m t) m t).0)))
                (λ c i m n t.
                let good = and_left (is_good mask i) (voted_at votes (frame i) c) t in
                (row_below low-all i (b.1 i n good) n good).1 c m (and_right (is_good mask i) (voted_at votes (frame i) c) t)),
          )
        where
          counter : ℕ → ℕ
          counter = counter_agreement s mask faults counters

          low-all : ℕ
          low-all = lesser s.nodes all

          b : (low-all ≤ s.nodes) × ((i : ℕ) → i < s.nodes → is_good mask i ≡ true → low-all ≤ row i)
          b = least-below (is_good mask) row s.nodes s.nodes low-all (omega arith)

          down : (given ≤ low) × ((c i : ℕ) → c < s.cells → i < s.nodes → takes votes mask frame c i ≡ true → given ≤ word_agreement votes s mask faults sent cells c i)
          down = columns-below votes s mask faults sent frame cells low s.cells given (omega arith)

          up : (given ≤ s.nodes) × ((i : ℕ) → i < s.nodes → is_good mask i ≡ true → given ≤ counter i)
          up = least-below (is_good mask) counter s.nodes s.nodes given (omega (arith, down.0, counted))

      -- or 0 where all are bad
      pub rows-least : {a r : ℕ} → a ≡ given → r ≡ cond (all_below (λ j. bit mask j) s.nodes) 0 a → r ≡ unwrap_or all 0
      rows-least {a} e =
          split (all_below (λ j. bit mask j) s.nodes)
          (λ t. rw t (λ h. h ∙ rw (least-missing (is_good mask) row s.nodes (λ j l. ap not (all_below-at (λ k. bit mask k) s.nodes j l t)))))
          (λ t. rw t (λ h. let w = all_below-not (λ k. bit mask k) s.nodes t in h ∙ e ∙ rows-agreed w.0 w.1 (ap not w.2)))
