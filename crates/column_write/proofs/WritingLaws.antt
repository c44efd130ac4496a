-- Writing a column from its end: what each store says of `column`.
use mathlib.Core.Path.{◌≡◌, refl, sym, ap, ◌∙◌}
use mathlib.Core.List.{List, [], ◌∷◌, ◌++◌, append_assoc, append-nil}
use Prim.Native.Nat.{ℕ, zero, suc, ◌+◌, ◌/◌, ◌%◌, ◌<◌}
use native.Mathlib.Nat.{lt-suc_self}
use lib.ListN.{length, set, drop, replicate}
use lib.Seq.{drop-length, drop-cons, drop-set-lt, get_or-set_same, lt-length-set}
use Rattle.column.specs.Column.{mark, front, column}

drop-set : (l : List ℕ) (i a : ℕ) → i < length l → drop i (set l i a) ≡ a ∷ drop (suc i) l
drop-set l i a h =
    drop-cons (set l i a) i 0 (lt-length-set l i a h)
    ∙ rw (get_or-set_same l i a 0 h, drop-set-lt (suc i) l i a (lt-suc_self i))

-- nothing is written yet
pub column-start : (l : List ℕ) (v : ℕ) → column (length l) v ≡ column (length l) v ++ drop (length l) l
column-start l v = rw (drop-length l, append-nil)

-- nothing is left to be written
pub column-end : (c l : List ℕ) (i v : ℕ) → c ≡ column i v ++ drop i l → i ≡ 0 → l ≡ c
unfolding column
column-end c l i v e z = sym (e ∙ ap (λ (k : ℕ). column k v ++ drop k l) z)

-- the last digit of what is left
pub column-next : (c l : List ℕ) (i v : ℕ) → i < length l → c ≡ column (suc i) v ++ drop (suc i) l → c ≡ front i (v / 10) ++ drop i (set l i (48 + v % 10))
unfolding column
column-next c l i v h e = e ∙ rw (drop-set l i (48 + v % 10) h) (append_assoc (front i (v / 10)) ((48 + v % 10) ∷ []) (drop (suc i) l))

-- the byte before what is written
pub front-next : (l : List ℕ) (i q : ℕ) → i < length l → front (suc i) q ++ drop (suc i) l ≡ front i (q / 10) ++ drop i (set l i (mark q))
unfolding front
front-next l i q h = rw (drop-set l i (mark q) h) (append_assoc (front i (q / 10)) (mark q ∷ []) (drop (suc i) l))

-- a blank before what is written
pub blank-moved : (i : ℕ) (t : List ℕ) → replicate (suc i) 32 ++ t ≡ replicate i 32 ++ (32 ∷ t)
blank-moved zero t = refl
blank-moved (suc i) t = ap (λ (s : List ℕ). 32 ∷ s) (blank-moved i t)

pub blank-next : (c l : List ℕ) (i : ℕ) → i < length l → c ≡ replicate (suc i) 32 ++ drop (suc i) l → c ≡ replicate i 32 ++ drop i (set l i 32)
blank-next c l i h e = e ∙ blank-moved i (drop (suc i) l) ∙ rw (drop-set l i 32 h)
