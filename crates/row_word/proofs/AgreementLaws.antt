-- Laws of the agreement of all good nodes on a value: what each way through the code counts is the least of what each good node counts for itself.
use Rattle.std.specs.Prelude.{Option, None, Some}
use mathlib.Core.Path.{◌≡◌, refl, sym, ap, ◌∙◌}
use mathlib.Core.Bool.{Bool}
use Prim.Native.Nat.{ℕ, ◌≤◌, ◌<◌, min}
use native.Mathlib.Omega.{arith}
use Rattle.array.specs.Index.{lesser, least}
use Rattle.array.proofs.BitLaws.{bit-none}
use Rattle.array.proofs.LeastLaws.{lesser-first, least-below, least-of, least-same}
use Rattle.ballot.specs.Majority.{holds, holders, majority, agreement}
use Rattle.ballot.proofs.MajorityLaws.{holds-true, holders-least, holders-same}
use Rattle.ballot.proofs.AgreementLaws.{agreement-some, agreement-none}
use Rattle.mailbox.specs.Code.{heard_of}
use Rattle.row_word.specs.Code.{is_good, good_only}
use Rattle.row_word.proofs.HeardLaws.{heard-agreement, good-heard, heard-decided, heard-alone}

-- ---- what one receiver counts

module _ (mask n : ℕ) (fault : ℕ → Option ℕ) (w : ℕ → ℕ) where
  -- who sent a value as a good node is heard
  heard-more : (x : ℕ) → holders (good_only mask w) n x ≤ holders (heard_of mask fault w) n x
  unfolding holders
  heard-more x =
      holders-least (λ j. holds (good_only mask w j) x) (heard_of mask fault w) n x (λ j l t. good-heard mask n fault w j x (holds-true (good_only mask w j) x t))

  -- with no bad node no one else is
  heard-only : mask ≡ 0 → (x : ℕ) → holders (heard_of mask fault w) n x ≡ holders (good_only mask w) n x
  heard-only z x = holders-same (heard_of mask fault w) (good_only mask w) n x (λ j l. rw (z, bit-none j))

-- ---- the least over the good receivers of how many hold a value

module _ (mask n low : ℕ) (fault : ℕ → ℕ → Option ℕ) (w : ℕ → ℕ) (x : ℕ) {held : ℕ} (h : held ≡ holders (good_only mask w) n x) where
  abbrev count : ℕ → ℕ
  count i = holders (heard_of mask (fault i) w) n x

  -- no receiver hears of fewer than were good
  pub low-reached : (i : ℕ) {agreed : ℕ} → i ≤ n → agreed ≡ lesser low (least (is_good mask) count i) → agreed ≤ held → agreed ≡ lesser low (least (is_good mask) count n)
  low-reached i {agreed} l e r =
      omega (
        arith,
        least-of (is_good mask) count (λ (k : ℕ). agreed ≤ k) n low (omega (arith, e, lesser-first low (least (is_good mask) count i))) (λ j k t. omega (arith, h, heard-more mask n (fault j) w x)),
        e,
        least-of (is_good mask) count (λ (k : ℕ). all ≤ k) i low (lesser-first low (least (is_good mask) count n))
            (λ j k t. (least-below (is_good mask) count n low all (omega arith)).1 j (omega arith) t),
      )
    where
      all : ℕ
      all = lesser low (least (is_good mask) count n)

  -- with no bad node all hear the same
  pub low-alone : {r : ℕ} → mask ≡ 0 → 0 < n → r ≡ min low held → r ≡ lesser low (least (is_good mask) count n)
  low-alone {r} z pos e =
      omega (
        arith,
        least-of (is_good mask) count (λ (k : ℕ). r ≤ k) n low (omega (arith, e)) (λ i k t. omega (arith, e, h, heard-more mask n (fault i) w x)),
        lesser-first low (least (is_good mask) count n),
        (least-below (is_good mask) count n low (lesser low (least (is_good mask) count n)) (omega arith)).1 0 pos (rw (z, bit-none 0)),
        heard-only mask n (fault 0) w z x,
        e,
        h,
      )

-- ---- the least over the good receivers of their agreements, by words u that were read of what was sent

module _ (mask n low : ℕ) (fault : ℕ → ℕ → Option ℕ) (w u : ℕ → ℕ) (e : (j : ℕ) → j < n → w j ≡ u j) where
  abbrev count-sent : ℕ → ℕ
  count-sent i = agreement (heard_of mask (fault i) w) n

  pub least-of-each :
      (take : ℕ → Bool) {r : ℕ} → r ≡ lesser low (least take (λ i. agreement (heard_of mask (fault i) u) n) n) → r ≡ lesser low (least take count-sent n)
  least-of-each take h =
      h ∙ ap (lesser low) (least-same take take _ count-sent n (λ i l. refl) (λ i l t. sym (heard-agreement mask n w u e (fault i))))

  module _ {o : Option ℕ} (d : o ≡ majority (good_only mask u) n) where
    pub least-of-none : o ≡ None → mask ≡ 0 → 0 < n → 0 ≡ lesser low (least (is_good mask) count-sent n)
    least-of-none q z pos =
        omega (
          arith,
          (least-below (is_good mask) count-sent n low (lesser low (least (is_good mask) count-sent n)) (omega arith)).1 0 pos (rw (z, bit-none 0)),
          heard-agreement mask n w u e (fault 0),
          agreement-none (heard_of mask (fault 0) u) n (heard-alone mask n (fault 0) u z ∙ sym d ∙ q),
        )

    pub least-of-decided :
        (x : ℕ) → o ≡ Some x → {r : ℕ} → r ≡ lesser low (least (is_good mask) (λ i. holders (heard_of mask (fault i) u) n x) n) →
        r ≡ lesser low (least (is_good mask) count-sent n)
    least-of-decided x q h =
        h
        ∙ ap (lesser low)
        (least-same (is_good mask) (is_good mask) _ count-sent n (λ i l. refl)
        (λ i l t. sym (agreement-some (heard_of mask (fault i) u) n x (heard-decided mask n (fault i) u x (sym d ∙ q))) ∙ sym (heard-agreement mask n w u e (fault i))))
