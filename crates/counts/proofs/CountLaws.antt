-- Laws of the good counts and of the count of working nodes: one for each way through a loop's body.
use mathlib.Core.Path.{◌≡◌, sym, ◌∙◌}
use mathlib.Core.Bool.{Bool, true, false, not, ◌&&◌}
use mathlib.Core.List.{List}
use Prim.Native.Nat.{ℕ, ◌+◌, ◌^◌, ◌<◌, min}
use lib.Dec.{eqb, leb, ltb}
use lib.ListN.{get_or, set}
use borrow.Author.Tests.{lt-leb, le-leb, ltb-true, ltb-false}
use Rattle.array.specs.Index.{fill, all_below}
use Rattle.array.specs.Bit.{bit}
use Rattle.array.proofs.IndexLaws.{all_below-more, all_below-fails}
use Rattle.array.proofs.LoopLaws.{stored_next, stored-still}
use Rattle.plan.specs.declared.Plan.{Plan}
use Rattle.plan.specs.Known.{period as period_of}
use Rattle.system.specs.declared.System.{System}
use Rattle.system.specs.Counts.{count_after, good_after, is_working}
use Rattle.system.specs.FrameCall.{mask_ok, counts_ok}

-- ---- a count

module _ (period count : ℕ) {bad : Bool} where
  pub count-bad : bad ≡ true → 0 ≡ count_after period bad count
  unfolding count_after
  count-bad e = rw e

  pub count-kept : {r : ℕ} → bad ≡ false → r ≡ min period (count + 1) → r ≡ count_after period bad count
  unfolding count_after
  count-kept e h = rw (e, h)

-- ---- the good counts

module _ (good : List ℕ) (period : ℕ) where
  pub counts-more : (i : ℕ) {b : Bool} → all_below (λ k. leb (get_or good k 0) period) i ≡ true → b ≡ ltb period (get_or good i 0) → b ≡ false → all_below (λ k. leb (get_or good k 0) period) (i + 1) ≡ true
  counts-more i h e l = all_below-more (λ k. leb (get_or good k 0) period) i h (le-leb (get_or good i 0) period (ltb-false period (get_or good i 0) (sym e ∙ l)))

  pub counts-fail : (i n : ℕ) {b : Bool} → i < n → b ≡ ltb period (get_or good i 0) → b ≡ true → false ≡ all_below (λ k. leb (get_or good k 0) period) n
  counts-fail i n l e h = sym (all_below-fails (λ k. leb (get_or good k 0) period) n i l (lt-leb (get_or good i 0) period (ltb-true period (get_or good i 0) (sym e ∙ h))))

  module _ (mask i : ℕ) {b : Bool} (e : b ≡ bit mask i) where
    pub count_next :
        {now : List ℕ} {r : ℕ} →
        now ≡ fill (good_after period mask good) i good →
        r ≡ count_after period b (get_or now i 0) →
        set now i r ≡ fill (good_after period mask good) (i + 1) good
    unfolding good_after
    count_next h k = stored_next (good_after period mask good) i good h (k ∙ rw (e, stored-still (good_after period mask good) i good h 0))

    -- whether node i is working
    pub works : {f : Bool} → f ≡ eqb (get_or good i 0) period → is_working period mask good i ≡ (not b && f)
    unfolding is_working
    works h = rw (e, h)

-- ---- the tests of mask and counts, as the code makes them

module _ (p : Plan) (sys : System) (mask : ℕ) {period : ℕ} (e : period ≡ period_of p) where
  pub counts-are : {c : Bool} → c ≡ all_below (λ i. leb (get_or sys.good i 0) period) p.nodes → c ≡ counts_ok p sys
  unfolding counts_ok
  counts-are h = h ∙ rw e

  pub mask-are : {m c : Bool} → m ≡ ltb mask (2 ^ p.nodes) → c ≡ all_below (λ i. leb (get_or sys.good i 0) period) p.nodes → (m && c) ≡ (mask_ok p mask && counts_ok p sys)
  unfolding mask_ok
  mask-are h k = rw (h, counts-are k)
