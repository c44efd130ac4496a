-- Laws of values stored at places, one after another: nothing yet, one more, all.
use mathlib.Core.Path.{◌≡◌, refl, sym, ◌∙◌}
use mathlib.Core.Bool.{Bool, true, false}
use mathlib.Core.List.{List}
use Prim.Native.Nat.{ℕ, suc, ◌+◌, ◌<◌}
use native.Mathlib.Omega.{arith}
use native.Mathlib.Nat.{not-suc-le-zero}
use lib.Dec.{eqb}
use lib.ListN.{length, get_or, set, length-set}
use lib.Seq.{get_or-set_same, get_or-set_other}
use borrow.Author.Tests.{eqb-true, eqb-false}
use Rattle.array.proofs.TestLaws.{split, clash}
use Rattle.row_counter.specs.Code.{Put}

-- no two have one place
pub suc_apart : (i j : ℕ) → suc i ≡ suc j → i ≡ j
suc_apart i j e = omega arith

-- nothing is taken that is not there already
pub put-idle : (place : ℕ → ℕ) (take : ℕ → Bool) (x : ℕ → ℕ) (n : ℕ) (l : List ℕ) → ((j : ℕ) → j < n → take j ≡ true → x j ≡ get_or l (place j) 0) → Put place take x n l l
put-idle place take x n l e = record { here = λ j h t. sym (e j h t); others = λ i f. refl; size = refl }

module _ (place : ℕ → ℕ) (apart : (i j : ℕ) → place i ≡ place j → i ≡ j) (take : ℕ → Bool) (x : ℕ → ℕ) (l : List ℕ) where
  pub put-none : Put place take x 0 l l
  put-none = put-idle place take x 0 l (λ j h t. absurd (not-suc-le-zero h))

  module _ (n : ℕ) {now : List ℕ} (p : Put place take x n l now) where
    -- what is not reached is as it was
    pub put-still : get_or now (place n) 0 ≡ get_or l (place n) 0
    put-still = p.others (place n) (λ j h t e. let z : n ≡ j = apart n j e in omega arith)

    pub put-taken : {at v : ℕ} → take n ≡ true → at ≡ place n → at < length l → v ≡ x n → Put place take x (n + 1) l (set now at v)
    put-taken {at} {v} t e h w =
        record {
          here = λ j k u.
              split (eqb j n)
              (λ q. rw (eqb-true j n q, ← e) (get_or-set_same now at v 0 (omega (arith, p.size)) ∙ w))
              (λ q. get_or-set_other now at (place j) v 0 (λ z. eqb-false j n q (apart j n (z ∙ e))) ∙ p.here j (omega (arith, eqb-false j n q)) u);
          others = λ i f. get_or-set_other now at i v 0 (λ z. f n (omega arith) t (z ∙ e)) ∙ p.others i (λ j k. f j (omega arith));
          size = length-set now at v ∙ p.size;
        }

    pub put-left : take n ≡ false → Put place take x (n + 1) l now
    put-left t =
        record {
          here = λ j k u. split (eqb j n) (λ q. absurd (clash (rw (eqb-true j n q) at u) t)) (λ q. p.here j (omega (arith, eqb-false j n q)) u);
          others = λ i f. p.others i (λ j k. f j (omega arith));
          size = p.size;
        }

    pub put_all : {m : ℕ} → n ≡ m → Put place take x m l now
    put_all e = rw e at p

-- the same values of the same ones
pub put_same :
    (place : ℕ → ℕ) (take take' : ℕ → Bool) (x x' : ℕ → ℕ) (n : ℕ) (l l' : List ℕ) →
    ((j : ℕ) → j < n → take j ≡ take' j) →
    ((j : ℕ) → j < n → take' j ≡ true → x j ≡ x' j) →
    Put place take x n l l' →
    Put place take' x' n l l'
put_same place take take' x x' n l l' e f p =
    record {
      here = λ j h t. p.here j h (e j h ∙ t) ∙ f j h t;
      others = λ i g. p.others i (λ j h t. g j h (sym (e j h) ∙ t));
      size = p.size;
    }
