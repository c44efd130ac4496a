-- Laws for loops: one that stores at each place, one that counts, one that tests all.
use mathlib.Core.Path.{◌≡◌, refl, sym, ◌∙◌}
use mathlib.Core.Bool.{Bool, true, false}
use mathlib.Core.List.{List, [], ◌∷◌, map}
use Prim.Native.Nat.{ℕ, zero, suc, ◌+◌, ◌<◌}
use native.Mathlib.Omega.{arith}
use lib.ListN.{length, get_or, set, length-map}
use Rattle.array.specs.Index.{fill, all_below, how_many}
use Rattle.array.proofs.IndexLaws.{how_many-hit, how_many-miss}
use Rattle.array.proofs.PlacesLaws.{fill_more, fill-out}

-- ---- an element in range, with any default

pub any-default : {A : Type 0} (l : List A) (i : ℕ) (d e : A) → i < length l → get_or l i d ≡ get_or l i e
any-default [] i d e h = absurd (omega arith)
any-default (x ∷ l) zero d e h = refl
any-default (x ∷ l) (suc i) d e h = any-default l i d e (omega arith)

-- the length of an array of structs in a struct
pub length-mapped : {A B : Type 0} (f : A → B) (l : List A) {n : ℕ} → length (map f l) ≡ n → length l ≡ n
length-mapped f l e = sym (length-map l f) ∙ e

-- ---- a loop that stores at each place

module _ {A : Type 0} (f : ℕ → A) (k : ℕ) (l : List A) {now : List A} (e : now ≡ fill f k l) where
  pub stored_next : {x : A} → x ≡ f k → set now k x ≡ fill f (k + 1) l
  stored_next {x} h = rw e (fill_more f k l x (sym h))

  pub stored-all : {n : ℕ} → k ≡ n → now ≡ fill f n l
  stored-all h = e ∙ rw h

  -- what the loop has not reached is as it was
  pub stored-still : (d : A) → get_or now k d ≡ get_or l k d
  stored-still d = rw e (fill-out f k l k d (omega arith))

-- ---- counting

module _ (q : ℕ → Bool) (i : ℕ) {count : ℕ} (e : count ≡ how_many q i) where
  pub counted-hit : q i ≡ true → count + 1 ≡ how_many q (i + 1)
  counted-hit h = rw e (sym (how_many-hit q i h))

  pub counted-miss : q i ≡ false → count ≡ how_many q (i + 1)
  counted-miss h = e ∙ sym (how_many-miss q i h)

  pub counted-all : {n : ℕ} → i ≡ n → count ≡ how_many q n
  counted-all h = e ∙ rw h

-- ---- all tested

pub all-passed : (q : ℕ → Bool) {i n : ℕ} → all_below q i ≡ true → i ≡ n → all_below q n ≡ true
all-passed q h e = rw e at h
