-- Laws of the words of a bin, and of what is heard of them.
use Rattle.std.specs.Prelude.{Option, Some}
use mathlib.Core.Path.{◌≡◌, refl, sym, ap, ◌∙◌}
use mathlib.Core.Bool.{Bool, true, false, cond}
use mathlib.Core.List.{List}
use Prim.Native.Nat.{ℕ, zero, suc, ◌+◌, ◌-◌, ◌*◌, ◌^◌, ◌≤◌, ◌<◌}
use native.Mathlib.Omega.{arith}
use native.Mathlib.Nat.{zero-add, mul-le-mul_right}
use borrow.Author.Tests.{lt-ltb}
use Rattle.array.specs.Word.{be}
use Rattle.array.proofs.BitLaws.{bit-ones}
use Rattle.plan.specs.Limits.{most_nodes}
use Rattle.ballot.specs.Code.{Packs}
use Rattle.ballot.proofs.PackedLaws.{packs-same}
use Rattle.memory.specs.Size.{counter_size, pattern_size, cell_at}
use Rattle.memory.proofs.MessageLaws.{counter_from-read, cell_from-read}
use Rattle.mailbox.specs.Code.{word_from, heard_of}

-- ---- a word of a bin

module _ (s : List ℕ) (at : ℕ) where
  pub word_first : {w r : ℕ} → w ≡ 0 → r ≡ be counter_size s at → word_from s w at ≡ Some r
  word_first e h = rw e (counter_from-read s at h)

  pub word-later : (w : ℕ) {d r : ℕ} → (w ≡ 0 → ⊥) → d ≡ cell_at (w - 1) → r ≡ be pattern_size s (at + d) → word_from s w at ≡ Some r
  word-later zero n e h = absurd (n refl)
  word-later (suc c) {d} n e h = let f : d ≡ cell_at c = omega arith in cell_from-read s at c (h ∙ rw f)

-- ---- what is heard

-- of a bad node, and of a good one, by a test of its bit
module _ (fault : Option ℕ) (w : ℕ) {b bad : Bool} (e : b ≡ bad) where
  pub heard-bad : {o : Option ℕ} → b ≡ true → fault ≡ o → cond bad fault (Some w) ≡ o
  heard-bad t q = rw (sym e ∙ t) q

  pub heard-good : b ≡ false → cond bad fault (Some w) ≡ Some w
  heard-good t = rw (sym e ∙ t)

-- where every bit is set, what the bins of a mailbox say
pub heard_all :
    (box : List ℕ) (w size : ℕ) (word : ℕ → ℕ) (n : ℕ) → n ≤ most_nodes → {apart : ℕ} → apart ≡ size → {values : List ℕ} {k : ℕ} →
    Packs (heard_of (2 ^ most_nodes - 1) (λ j. word_from box w (0 + j * apart)) word) n values k → Packs (λ j. word_from box w (j * size)) n values k
heard_all box w size word n l {apart} e =
    packs-same (heard_of (2 ^ most_nodes - 1) (λ j. word_from box w (0 + j * apart)) word) (λ j. word_from box w (j * size)) n
    (λ j h. rw (bit-ones most_nodes j ∙ lt-ltb j most_nodes (omega arith)) (ap (word_from box w) (zero-add (j * apart) ∙ ap (λ (k : ℕ). j * k) e)))

-- the place of a bin is a small number
pub place-small : (j apart : ℕ) → j < most_nodes → apart < 65536 → j * apart < 458752
place-small j apart l m = let h : j * apart ≤ 6 * apart = mul-le-mul_right apart (omega arith) in omega arith
