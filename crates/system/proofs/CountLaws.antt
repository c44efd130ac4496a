-- Laws of the good counts: what masks give, and that a frame keeps a record's counts what the masks of its frames give.
use mathlib.Core.Path.{◌≡◌, refl, ◌∙◌}
use mathlib.Core.Bool.{true, false, not}
use mathlib.Core.List.{List, [], ◌∷◌, ◌++◌}
use Prim.Native.Nat.{ℕ, zero, suc, ◌≤◌, ◌<◌, min}
use native.Mathlib.Omega.{arith}
use lib.ListN.{length, take}
use borrow.Author.Tests.{le-leb, not-true}
use Rattle.array.proofs.TestLaws.{split, and_left, and_right}
use Rattle.array.proofs.IndexLaws.{all_below-all}
use Rattle.array.proofs.PlacesLaws.{fill-length, fill-in}
use Rattle.plan.specs.declared.Plan.{Plan}
use Rattle.plan.specs.Known.{period}
use Rattle.plan.specs.Accepted.{accepted}
use Rattle.plan.proofs.AcceptedLaws.{shape-of-accepted}
use Rattle.system.specs.declared.System.{System}
use Rattle.system.specs.System.{zero_system, power_on}
use Rattle.system.specs.Fault.{bad}
use Rattle.system.specs.Counts.{count_after, good_after, good_count}
use Rattle.system.specs.Frame.{good_of, system_after}
use Rattle.system.specs.FrameCall.{counts_ok}
use Rattle.system.specs.Demand.{good_in}

-- ---- the good count that masks give

module _ (period i : ℕ) where
  pub count_most : (past : List ℕ) → good_count period past i ≤ period
  unfolding good_count count_after
  count_most [] = omega arith
  count_most (mask ∷ past) = split (bad mask i) (λ e. rw e (omega arith)) (λ e. rw e (omega arith))

  -- good in the last k frames: a count of k at least, and the other way round
  pub count-least : (k : ℕ) (past : List ℕ) → k ≤ period → good_in i (take k past) ≡ true → k ≤ good_count period past i
  unfolding good_in good_count count_after
  count-least zero past l g = omega arith
  count-least (suc k) [] l g = l
  count-least (suc k) (mask ∷ past) l g =
      let good : bad mask i ≡ false = not-true (bad mask i) (and_left _ (good_in i (take k past)) g) in
      rw good (omega (arith, count-least k past (omega arith) (and_right (not (bad mask i)) _ g)))

  pub count-good : (k : ℕ) (past : List ℕ) → k ≤ good_count period past i → good_in i (take k past) ≡ true
  unfolding good_in good_count count_after
  count-good zero past = λ l. refl
  count-good (suc k) [] = λ l. refl
  count-good (suc k) (mask ∷ past) =
      split (bad mask i)
      (λ e. rw e (λ l. absurd (omega arith)))
      (λ e. rw e (λ l. count-good k past (omega arith)))

  -- just after a bad frame: the number of good frames since, up to R
  pub count-since :
      (recent : List ℕ) (mask : ℕ) (past : List ℕ) →
      good_in i recent ≡ true → bad mask i ≡ true →
      good_count period (recent ++ (mask ∷ past)) i ≡ min period (length recent)
  unfolding good_in good_count count_after
  count-since [] mask past g b = rw b (omega arith)
  count-since (m ∷ recent) mask past g b =
      let good : bad m i ≡ false = not-true (bad m i) (and_left _ (good_in i recent) g) in
      rw good (omega (arith, count-since recent mask past (and_right (not (bad m i)) _ g) b))

-- ---- the counts of a record

-- they are what the masks of the frames so far give, the newest first
pub record Counts (p : Plan) (sys : System) (past : List ℕ) : Type 0 where
  pub size : p.nodes ≤ length sys.good
  pub count : (i : ℕ) → i < p.nodes → good_of sys i ≡ good_count (period p) past i

pub counts_start : (p : Plan) → accepted p ≡ true → Counts p (power_on p) []
unfolding power_on good_count
counts_start p accept =
    let s = shape-of-accepted p accept in
    record {
      size = omega (arith, s.nodes-high, fill-length (λ i. period p) p.nodes zero_system.good);
      count = λ i l. fill-in (λ k. period p) p.nodes zero_system.good i 0 l (omega (arith, s.nodes-high));
    }

module _ (p : Plan) (sys : System) (past : List ℕ) (h : Counts p sys past) where
  pub counts-ok : counts_ok p sys ≡ true
  unfolding counts_ok
  counts-ok = all_below-all _ p.nodes (λ i l. le-leb (good_of sys i) (period p) (omega (arith, h.count i l, count_most (period p) i past)))

  -- through a frame, whatever its fault bytes say
  module _ (sensors : List ℕ) (mask : ℕ) (faults : List ℕ) where
    pub count-after : (i : ℕ) → i < p.nodes → good_of (system_after p sys sensors mask faults) i ≡ good_after (period p) mask sys.good i
    unfolding system_after
    count-after i l = fill-in (good_after (period p) mask sys.good) p.nodes sys.good i 0 l (omega (arith, h.size))

    count-is : (i : ℕ) → i < p.nodes → good_after (period p) mask sys.good i ≡ good_count (period p) (mask ∷ past) i
    unfolding good_after good_count
    count-is i l = rw (h.count i l)

    pub counts-after : Counts p (system_after p sys sensors mask faults) (mask ∷ past)
    unfolding system_after
    counts-after =
        record {
          size = omega (arith, h.size, fill-length (good_after (period p) mask sys.good) p.nodes sys.good);
          count = λ i l. count-after i l ∙ count-is i l;
        }
