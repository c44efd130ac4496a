-- Laws of the code's way to the recovery period: what its words say of `known`.
use mathlib.Core.Path.{◌≡◌, refl, sym, ◌∙◌}
use mathlib.Core.Bool.{Bool, true, false, cond}
use mathlib.Core.List.{List}
use Prim.Native.Nat.{ℕ, ◌+◌, ◌*◌, ◌%◌, ◌/◌, ◌^◌, ◌≤◌, ◌<◌}
use native.Mathlib.Omega.{arith}
use native.Mathlib.Nat.{one-mul, mod-eq_of_lt, pow-le-pow_right, one-le-pow}
use native.Mathlib.Numerals.{add-one}
use lib.Dec.{eqb, lit<}
use lib.ListN.{get_or, set}
use lib.Bits.{bit_and, bit_or}
use borrow.Author.Tests.{eqb-true, eqb-false, lt-ltb}
use Rattle.array.specs.Index.{all_below, fill}
use Rattle.array.specs.Bit.{bit}
use Rattle.array.proofs.TestLaws.{split}
use Rattle.array.proofs.IndexLaws.{all_below-none}
use Rattle.array.proofs.BitLaws.{bit-and, bit-ones, bit-set}
use Rattle.array.proofs.PlacesLaws.{fill_more, fill-out}
use Rattle.plan.specs.Tables.{vote_place}

-- ---- words of ones

pub ones_small : (n : ℕ) → n ≤ 16 → 2 ^ n ≤ 65536
ones_small n l = pow-le-pow_right (lit< tt) l

pub ones-shifted : (n : ℕ) → n ≤ 16 → 1 * 2 ^ n % 4294967296 ≡ 2 ^ n
ones-shifted n l = rw one-mul (mod-eq_of_lt (omega (arith, ones_small n l)))

pub ones-some : (n : ℕ) → 1 ≤ 2 ^ n
ones-some n = one-le-pow n 2 (lit< tt)

-- ---- the first bit that is not set

pub unset-more : (w low g : ℕ) → ((k : ℕ) → low ≤ k → k < g → bit w k ≡ true) → (w / 2 ^ g % 2 ≡ 0 → ⊥) → (k : ℕ) → low ≤ k → k < g + 1 → bit w k ≡ true
unset-more w low g h n k l m =
    split (eqb k g) (λ t. rw (eqb-true k g t) (bit-set w g n)) (λ t. h k l (omega (arith, eqb-false k g t)))

-- ---- votes

module _ (voted : List Bool) (frame begun : ℕ) (ws₀ : List ℕ) where
  -- the word of a cell after the votes
  abbrev pub voted_word : ℕ → ℕ
  voted_word c = bit_or (get_or ws₀ c 0) (cond (get_or voted (vote_place frame c) false) begun 0)

  pub votes-more : (ws : List ℕ) (c r : ℕ) → ws ≡ fill voted_word c ws₀ → r ≡ cond (get_or voted (vote_place frame c) false) begun 0 → set ws c (bit_or (get_or ws c 0) r) ≡ fill voted_word (c + 1) ws₀
  votes-more ws c r e v = rw (e, v, fill-out voted_word c ws₀ c 0 (omega arith)) (fill_more voted_word c ws₀ _ refl)

-- ---- the first frames from which all is known

module _ (ws : List ℕ) where
  pub all_none : (g : ℕ) → g < 16 → bit 65535 g ≡ all_below (λ c. bit (get_or ws c 0) g) 0
  all_none g l = bit-ones 16 g ∙ lt-ltb g 16 l ∙ sym (all_below-none (λ c. bit (get_or ws c 0) g))

  pub all_more : (all n : ℕ) → ((g : ℕ) → g < 16 → bit all g ≡ all_below (λ c. bit (get_or ws c 0) g) n) → (g : ℕ) → g < 16 → bit (bit_and all (get_or ws n 0)) g ≡ all_below (λ c. bit (get_or ws c 0) g) (n + 1)
  unfolding all_below
  all_more all n h g l = bit-and all (get_or ws n 0) g ∙ rw (h g l, add-one n)
