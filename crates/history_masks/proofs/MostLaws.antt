-- The table of the masks that leave more than half of the nodes: each number computed, once over all masks.
use mathlib.Core.Path.{◌≡◌, refl, sym}
use mathlib.Core.Bool.{Bool, true, false, not}
use Prim.Native.Nat.{ℕ, ◌*◌, ◌^◌}
use lib.Count.{ones, ones_in}
use lib.Dec.{ltb}
use Rattle.array.specs.Index.{all_below}
use Rattle.array.specs.Bit.{bit}
use Rattle.array.proofs.IndexLaws.{all_below-at}
use Rattle.history_masks.specs.Code.{Most}

same : Bool → Bool → Bool
same true b = b
same false b = not b

same-is : (a b : Bool) → same a b ≡ true → a ≡ b
unfolding same
same-is true true e = refl
same-is true false e = sym e
same-is false true e = e
same-is false false e = refl

by-masks : (nodes most : ℕ) → all_below (λ b. same (bit most b) (ltb (2 * ones b) nodes)) (2 ^ nodes) ≡ true → Most nodes most
by-masks nodes most e =
    record { bits = λ b l. same-is (bit most b) (ltb (2 * ones b) nodes) (all_below-at (λ b. same (bit most b) (ltb (2 * ones b) nodes)) (2 ^ nodes) b l e) }

none-of-none : all_below (λ b. same (bit 0 b) (ltb (2 * ones b) 0)) (2 ^ 0) ≡ true
unfolding all_below same bit ones ones_in
none-of-none = refl

of_one : all_below (λ b. same (bit 1 b) (ltb (2 * ones b) 1)) (2 ^ 1) ≡ true
unfolding all_below same bit ones ones_in
of_one = refl

of_two : all_below (λ b. same (bit 1 b) (ltb (2 * ones b) 2)) (2 ^ 2) ≡ true
unfolding all_below same bit ones ones_in
of_two = refl

of_three : all_below (λ b. same (bit 23 b) (ltb (2 * ones b) 3)) (2 ^ 3) ≡ true
unfolding all_below same bit ones ones_in
of_three = refl

of_four : all_below (λ b. same (bit 279 b) (ltb (2 * ones b) 4)) (2 ^ 4) ≡ true
unfolding all_below same bit ones ones_in
of_four = refl

of-five : all_below (λ b. same (bit 18290559 b) (ltb (2 * ones b) 5)) (2 ^ 5) ≡ true
unfolding all_below same bit ones ones_in
of-five = refl

pub most-none : Most 0 0
most-none = by-masks 0 0 none-of-none

pub most-one : Most 1 1
most-one = by-masks 1 1 of_one

pub most-two : Most 2 1
most-two = by-masks 2 1 of_two

pub most-three : Most 3 23
most-three = by-masks 3 23 of_three

pub most-four : Most 4 279
most-four = by-masks 4 279 of_four

pub most-five : Most 5 18290559
most-five = by-masks 5 18290559 of-five
