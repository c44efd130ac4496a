-- Laws of one word of all nodes: what more than half sent as good nodes is what every good node votes, and with no bad node all hear the same.
use Rattle.std.specs.Prelude.{Option, None, Some}
use mathlib.Core.Path.{◌≡◌, sym, ap, ◌∙◌}
use mathlib.Core.Bool.{Bool, true, false, not, ◌&&◌}
use mathlib.Core.List.{List}
use Prim.Native.Nat.{ℕ, ◌+◌, ◌*◌, ◌<◌}
use native.Mathlib.Omega.{arith}
use native.Mathlib.Nat.{zero-mul}
use lib.Dec.{eqb}
use lib.ListN.{get_or}
use borrow.Author.Tests.{not-true, not-false}
use Rattle.array.specs.Bit.{bit}
use Rattle.array.proofs.BitLaws.{bit-none}
use Rattle.array.proofs.TestLaws.{split, clash}
use Rattle.ballot.specs.Majority.{holds, holders, majority, agreement}
use Rattle.plan.specs.declared.Sizes.{Sizes}
use Rattle.ballot.specs.Code.{packed, Packs, Told}
use Rattle.ballot.proofs.PackedLaws.{packed-in, packs-same}
use Rattle.ballot.proofs.ScanLaws.{holders-hit, holders-miss}
use Rattle.ballot.proofs.MajorityLaws.{holds-true, some_holds, holders-same, majority-same, majority-heard, no-some}
use Rattle.ballot.proofs.AgreementLaws.{agreement-same}
use Rattle.system.specs.Fault.{fault_size, fault_message_at}
use Rattle.mailbox.specs.Code.{word_from, heard_of}
use Rattle.row_word.specs.Code.{is_good, good_only, heard_word}

-- a test that the code makes
pub good-if : (mask j : ℕ) {b t : Bool} → b ≡ bit mask j → not b ≡ t → is_good mask j ≡ t
good-if mask j e h = ap not (sym e) ∙ h

pub good_none : (mask : ℕ) (w : ℕ → ℕ) (j : ℕ) → is_good mask j ≡ false → good_only mask w j ≡ None
good_none mask w j t = rw (not-false (bit mask j) t)

pub good-some : (mask : ℕ) (w : ℕ → ℕ) (j : ℕ) → is_good mask j ≡ true → good_only mask w j ≡ Some (w j)
good-some mask w j t = rw (not-true (bit mask j) t)

-- the good nodes that hold a value, counted one by one
module _ (mask : ℕ) (w : ℕ → ℕ) (j x : ℕ) {b : Bool} {r : ℕ} (e : b ≡ bit mask j) (h : r ≡ holders (good_only mask w) j x) where
  good-holds : {t : Bool} → (not b && eqb (w j) x) ≡ t → holds (good_only mask w j) x ≡ t
  unfolding holds
  good-holds = split (bit mask j) (λ u. rw (e, u) (λ q. q)) (λ u. rw (e, u) (λ q. q))

  pub good-counted : (not b && eqb (w j) x) ≡ true → r + 1 ≡ holders (good_only mask w) (j + 1) x
  good-counted t = holders-hit (good_only mask w) j (holds-true (good_only mask w j) x (good-holds t)) h

  pub good-passed : (not b && eqb (w j) x) ≡ false → r ≡ holders (good_only mask w) (j + 1) x
  good-passed t = holders-miss (good_only mask w) j (λ q. clash (some_holds x q) (good-holds t)) h

-- the words that were read
pub told-word : (w : ℕ → ℕ) (n : ℕ) (words : List ℕ) → Told (λ j. Some (w j)) n words → (j : ℕ) → j < n → w j ≡ get_or words j 0
told-word w n words t j l = let e : Some (w j) ≡ Some (get_or words j 0) = t j l in cc

module _ (mask n : ℕ) (w u : ℕ → ℕ) (e : (j : ℕ) → j < n → w j ≡ u j) where
  pub good-same : majority (good_only mask w) n ≡ majority (good_only mask u) n
  good-same = majority-same (good_only mask w) (good_only mask u) n (λ j l. rw (e j l))

  pub heard-same : (fault : ℕ → Option ℕ) → majority (heard_of mask fault w) n ≡ majority (heard_of mask fault u) n
  heard-same fault = majority-same (heard_of mask fault w) (heard_of mask fault u) n (λ j l. rw (e j l))

  pub heard-agreement : (fault : ℕ → Option ℕ) → agreement (heard_of mask fault w) n ≡ agreement (heard_of mask fault u) n
  heard-agreement fault = agreement-same (heard_of mask fault w) (heard_of mask fault u) n (λ j l. rw (e j l))

module _ (mask n : ℕ) (fault : ℕ → Option ℕ) (w : ℕ → ℕ) where
  pub good-heard : (j v : ℕ) → good_only mask w j ≡ Some v → heard_of mask fault w j ≡ Some v
  good-heard j v = split (bit mask j) (λ t. rw t (λ e. absurd (no-some e))) (λ t. rw t (λ e. e))

  -- what more than half sent as good nodes is heard by all, whatever the others say
  pub heard-decided : (x : ℕ) → majority (good_only mask w) n ≡ Some x → majority (heard_of mask fault w) n ≡ Some x
  heard-decided x e = majority-heard (good_only mask w) (heard_of mask fault w) n x (λ j v l. good-heard j v) e

  -- with no bad node it is all that is heard
  pub heard-alone : mask ≡ 0 → majority (heard_of mask fault w) n ≡ majority (good_only mask w) n
  heard-alone z = majority-same (heard_of mask fault w) (good_only mask w) n (λ j l. rw (z, bit-none j))

-- with no bad node the words as they stand are the good ones'
module _ (mask n : ℕ) (words : List ℕ) (z : mask ≡ 0) where
  all-good : (j : ℕ) → j < n → packed words n j ≡ good_only mask (λ k. get_or words k 0) j
  all-good j l = packed-in words n j l ∙ rw (z, bit-none j)

  pub good-alone : majority (packed words n) n ≡ majority (good_only mask (λ j. get_or words j 0)) n
  good-alone = majority-same (packed words n) (good_only mask (λ j. get_or words j 0)) n all-good

  pub holders-alone : (x : ℕ) → holders (packed words n) n x ≡ holders (good_only mask (λ j. get_or words j 0)) n x
  holders-alone x = holders-same (packed words n) (good_only mask (λ j. get_or words j 0)) n x all-good

-- what was decided of words that were read is decided of what was sent
pub decided-of :
    (mask n : ℕ) (w : ℕ → ℕ) (words : List ℕ) → Told (λ j. Some (w j)) n words → {o : Option ℕ} → o ≡ majority (good_only mask (λ j. get_or words j 0)) n →
    majority (good_only mask w) n ≡ o
decided-of mask n w words t d = good-same mask n w (λ j. get_or words j 0) (told-word w n words t) ∙ sym d

-- ---- where a receiver's bins stand: as far apart as the parts of the bad nodes

module _ (s : Sizes) (i : ℕ) {at apart : ℕ} (first : at ≡ fault_message_at s 0 i) (size : apart ≡ fault_size s) where
  pub bins-apart : (j : ℕ) → at + j * apart ≡ fault_message_at s j i
  bins-apart j = rw (first, size) (omega (arith, zero-mul (fault_size s)))

  pub heard-apart :
      (mask : ℕ) (faults : List ℕ) (word : ℕ → ℕ) (w : ℕ) {values : List ℕ} {k : ℕ} →
      Packs (heard_of mask (λ j. word_from faults w (at + j * apart)) word) s.nodes values k → Packs (heard_word s mask faults word w i) s.nodes values k
  heard-apart mask faults word w =
      packs-same (heard_of mask (λ j. word_from faults w (at + j * apart)) word) (heard_word s mask faults word w i) s.nodes (λ j l. rw (bins-apart j))
