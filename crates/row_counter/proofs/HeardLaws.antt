-- Laws of what is heard of the counters: what more than half sent as good nodes is what every good node votes, and with no bad node all hear the same.
use Rattle.std.specs.Prelude.{Option, None, Some}
use mathlib.Core.Path.{◌≡◌, sym, ap, ◌∙◌}
use mathlib.Core.Bool.{cond}
use mathlib.Core.List.{List}
use Prim.Native.Nat.{ℕ, suc, ◌≤◌, ◌<◌}
use lib.Dec.{ltb}
use lib.ListN.{get_or}
use borrow.Author.Tests.{lt-ltb, le-ltb}
use Rattle.plan.specs.declared.Sizes.{Sizes}
use Rattle.ballot.specs.Majority.{majority, or_own}
use Rattle.ballot.specs.Code.{packed, Packs, Told}
use Rattle.ballot.proofs.PackedLaws.{packs-majority}
use Rattle.row_word.specs.Code.{good_only, fault_word, heard_word}
use Rattle.row_word.proofs.HeardLaws.{told-word, heard-same, heard-decided, heard-alone}
use Rattle.row_counter.specs.Code.{counter_after}

own-if : (frames own : ℕ) {o : Option ℕ} (x : ℕ) → o ≡ Some x → or_own frames own o ≡ cond (ltb x frames) x own
unfolding or_own
own-if frames own x e = rw e

own-none : (frames own : ℕ) {o : Option ℕ} → o ≡ None → or_own frames own o ≡ own
unfolding or_own
own-none frames own e = rw e

-- the counter
module _ (s : Sizes) (mask : ℕ) (faults : List ℕ) (i : ℕ) where
  module _ (counters : List ℕ) where
    abbrev counter : ℕ → ℕ
    counter j = get_or counters (suc j) 0

    abbrev told : Option ℕ
    told = majority (good_only mask counter) s.nodes

    counter-decided : (x : ℕ) → told ≡ Some x → counter_after s mask faults counters i ≡ cond (ltb x s.frames) x (counter i)
    unfolding counter_after
    counter-decided x e =
        own-if s.frames (counter i) x (heard-decided mask s.nodes (fault_word s mask faults 0 i) counter x e)

    pub counter-settled : (x : ℕ) → told ≡ Some x → x < s.frames → counter_after s mask faults counters i ≡ x
    counter-settled x e l = counter-decided x e ∙ rw (lt-ltb x s.frames l)

    -- a value that is no frame is not taken
    pub counter-kept : (x : ℕ) → told ≡ Some x → s.frames ≤ x → counter_after s mask faults counters i ≡ counter i
    counter-kept x e l = counter-decided x e ∙ rw (le-ltb x s.frames l)

    pub counter-alone : told ≡ None → mask ≡ 0 → counter_after s mask faults counters i ≡ counter i
    unfolding counter_after
    counter-alone e z =
        own-none s.frames (counter i) (heard-alone mask s.nodes (fault_word s mask faults 0 i) counter z ∙ e)

    -- by words that were read
    pub counter-read :
        (words : List ℕ) → Told (λ j. Some (counter j)) s.nodes words →
        or_own s.frames (counter i) (majority (heard_word s mask faults (λ j. get_or words j 0) 0 i) s.nodes) ≡ counter_after s mask faults counters i
    unfolding counter_after
    counter-read words t =
        ap (or_own s.frames (counter i))
        (sym (heard-same mask s.nodes counter (λ j. get_or words j 0) (told-word counter s.nodes words t) (fault_word s mask faults 0 i)))

-- what a receiver takes of words that it counted, where its own is as it was
pub counted-own :
    (bin : ℕ → Option ℕ) (n frames : ℕ) {values : List ℕ} {k now old r : ℕ} {voted : Option ℕ} →
    Packs bin n values k → voted ≡ majority (packed values k) n → now ≡ old → r ≡ or_own frames now voted → r ≡ or_own frames old (majority bin n)
counted-own bin n frames packs counted still e = rw (← packs-majority bin n packs, ← counted, ← still) e
