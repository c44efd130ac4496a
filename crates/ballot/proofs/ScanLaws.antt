-- Laws of the loops that count holders: a loop's start, and one for each way through its body.
use Rattle.std.specs.Prelude.{Option, None, Some}
use mathlib.Core.Path.{◌≡◌, refl, sym, ◌∙◌}
use Prim.Native.Nat.{ℕ, zero, suc, ◌+◌, ◌≤◌, ◌<◌}
use native.Mathlib.Omega.{arith}
use native.Mathlib.Numerals.{add-one}
use lib.Dec.{eqb}
use borrow.Author.Tests.{eqb-true, eqb-false, lt-ltb, le-ltb}
use Rattle.array.specs.Index.{how_many}
use Rattle.array.proofs.TestLaws.{split}
use Rattle.array.proofs.IndexLaws.{how_many-hit, how_many-miss, how_many-grows}
use Rattle.ballot.specs.Majority.{holds, holders, backing}
use Rattle.ballot.specs.Code.{best_from}
use Rattle.ballot.proofs.MajorityLaws.{no-some, holds-true, some_holds}

-- ---- the holders of a value

module _ (bin : ℕ → Option ℕ) where
  pub holders-none : (x : ℕ) → 0 ≡ holders bin 0 x
  unfolding holders how_many
  holders-none x = refl

  pub holders-hit : {x r : ℕ} (j : ℕ) → bin j ≡ Some x → r ≡ holders bin j x → r + 1 ≡ holders bin (j + 1) x
  unfolding holders
  holders-hit {x} j e h = rw h (sym (how_many-hit (λ i. holds (bin i) x) j (some_holds x e)))

  pub holders-miss : {x r : ℕ} (j : ℕ) → (bin j ≡ Some x → ⊥) → r ≡ holders bin j x → r ≡ holders bin (j + 1) x
  unfolding holders
  holders-miss {x} j e h =
      h ∙ sym (how_many-miss (λ i. holds (bin i) x) j (split (holds (bin j) x) (λ t. absurd (e (holds-true (bin j) x t))) (λ t. t)))

  pub holders-grows : (x j k : ℕ) → j ≤ k → holders bin j x ≤ holders bin k x
  unfolding holders
  holders-grows x j k l = how_many-grows (λ i. holds (bin i) x) j k l

  -- a value that a bin holds has a holder
  pub holders-held : {x : ℕ} (n j : ℕ) → j < n → bin j ≡ Some x → 0 < holders bin n x
  holders-held {x} n j l e = omega (arith, holders-hit j e refl, holders-grows x (j + 1) n (omega arith))

  -- bins that hold nothing do not count
  pub holders-past : (k n x : ℕ) → k ≤ n → ((j : ℕ) → k ≤ j → bin j ≡ None) → holders bin k x ≡ holders bin n x
  holders-past k zero x l e = let z : k ≡ 0 = omega arith in rw z
  holders-past k (suc n) x l e =
      split (eqb k (suc n))
      (λ t. rw (eqb-true k (suc n) t))
      (λ t.
      let h : k ≤ n = omega (arith, eqb-false k (suc n) t) in
      rw (← add-one n) (holders-miss n (λ s. no-some (sym (e n h) ∙ s)) (holders-past k n x h e)))

-- ---- the value that most put out

module _
    (put : ℕ → Option ℕ) (n r i : ℕ) {best x most held : ℕ}
    (b : best ≡ best_from put n r i) (p : put i ≡ Some x)
    (m : most ≡ holders put n best) (h : held ≡ holders put n x)
  where
    pub best-new : most < held → x ≡ best_from put n r (i + 1)
    unfolding best_from backing
    best-new l = rw (add-one i, ← b, p, ← m, ← h, lt-ltb most held l)

    pub best-old : held ≤ most → best ≡ best_from put n r (i + 1)
    unfolding best_from backing
    best-old l = rw (add-one i, ← b, p, ← m, ← h, le-ltb most held l)
