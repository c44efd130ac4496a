-- What the tests on a run line say of its numbers.
use Rattle.std.specs.Prelude.{Option, None, Some}
use mathlib.Core.Path.{◌≡◌, refl, sym, ap, ◌∙◌}
use mathlib.Core.Bool.{false, ◌&&◌}
use mathlib.Core.List.{List, [], ◌∷◌, ◌++◌, append-nil}
use Prim.Native.Nat.{ℕ, zero, suc, ◌+◌, ◌-◌, ◌*◌, ◌/◌, ◌^◌, ◌≤◌, ◌<◌}
use native.Mathlib.Omega.{arith}
use native.Mathlib.Numerals.{add-one}
use lib.Dec.{eqb, leb, ltb}
use lib.ListN.{length, get_or, take, set, replicate}
use lib.Seq.{slice, append_snoc, take-suc-set}
use borrow.Author.Tests.{eq-eqb, ne_eqb, lt-leb, le-leb}
use Rattle.array.proofs.TestLaws.{and-false-left, and-false-right}
use Rattle.column.specs.Column.{number_shown}
use Rattle.column.specs.Row.{and_then, numbers_from, numbers_shown}
use Rattle.array.proofs.BitLaws.{mask_fits}
use Rattle.run_line.specs.Line.{run_widths, in_limits, run_numbers}

-- ---- the patterns, one by one

-- numbers before those that are read
abbrev pub with_front : List ℕ → Option (List ℕ) → Option (List ℕ)
with_front vs None = None
with_front vs (Some us) = Some (vs ++ us)

-- the patterns from the k-th on
unfoldable pub rest : List ℕ → ℕ → ℕ → Option (List ℕ)
rest line count k = numbers_from (8 + 20 * k) (replicate (count - k) 20) line

-- the k patterns in the array and those from the k-th on are the line's
abbrev pub Front : List ℕ → ℕ → List ℕ → ℕ → Type 0
Front line count ps k = with_front (take k ps) (rest line count k) ≡ numbers_from 8 (replicate count 20) line

front-none : (o : Option (List ℕ)) → with_front [] o ≡ o
front-none None = refl
front-none (Some us) = refl

front-and : (vs : List ℕ) (v : ℕ) (o : Option (List ℕ)) → with_front (vs ++ (v ∷ [])) o ≡ with_front vs (and_then (Some v) o)
front-and vs v None = refl
front-and vs v (Some us) = ap Some (append_snoc vs v us)

module _ (line : List ℕ) (count : ℕ) where
  -- none is read yet
  pub front-first : Front line count [] 0
  unfolding rest
  front-first =
      let e : count - 0 ≡ count = omega arith in
      rw e (front-none (numbers_from 8 (replicate count 20) line))

  module _ (k : ℕ) (l : k < count) where
    rest_more : rest line count k ≡ and_then (number_shown (slice (8 + 20 * k) (8 + 20 * k + 20) line)) (rest line count (k + 1))
    unfolding rest numbers_from
    rest_more =
        let e : count - k ≡ suc (count - (k + 1)) = omega arith in
        let f : 8 + 20 * (k + 1) ≡ 8 + 20 * k + 20 = omega arith in
        rw (e, f)

    module _ (ps : List ℕ) (h : Front line count ps k) where
      -- a column that shows a number
      pub front-next : (v : ℕ) → k < length ps → Some v ≡ number_shown (slice (8 + 20 * k) (8 + 20 * k + 20) line) → Front line count (set ps k v) (k + 1)
      front-next v b e =
          let t : take (k + 1) (set ps k v) ≡ take k ps ++ (v ∷ []) = rw (add-one k) (take-suc-set ps k v b) in
          let m : and_then (Some v) (rest line count (k + 1)) ≡ rest line count k = rw e (sym rest_more) in
          rw t (front-and (take k ps) v (rest line count (k + 1)) ∙ ap (with_front (take k ps)) m ∙ h)

      -- a column that shows none
      pub front-bad : None ≡ number_shown (slice (8 + 20 * k) (8 + 20 * k + 20) line) → None ≡ numbers_from 8 (replicate count 20) line
      front-bad e = let n : rest line count k ≡ None = rest_more ∙ rw (← e) in ap (with_front (take k ps)) (sym n) ∙ h

  -- all are read
  module _ (size : length line ≡ 8 + 20 * count + 1) (feed : get_or line (8 + 20 * count) 0 ≡ 10) where
    rest_end : rest line count count ≡ Some []
    unfolding rest numbers_from
    rest_end =
        let e : count - count ≡ 0 = omega arith in
        rw (e, eq-eqb (length line) (8 + 20 * count + 1) size, eq-eqb (get_or line (8 + 20 * count) 0) 10 feed)

    pub front-all : (k : ℕ) (ps : List ℕ) → k ≡ count → Front line count ps k → Some (take count ps) ≡ numbers_from 8 (replicate count 20) line
    front-all k ps q =
        rw q (λ h. ap Some (sym (append-nil (take count ps))) ∙ ap (with_front (take count ps)) (sym rest_end) ∙ h)

-- ---- the whole line

and_none : (x : Option ℕ) → and_then x None ≡ None
and_none None = refl
and_none (Some v) = refl

-- n patterns from a place on, in a line that does not end after them
end-missing : (at n : ℕ) (s : List ℕ) → (eqb (length s) (at + 20 * n + 1) && eqb (get_or s (at + 20 * n) 0) 10) ≡ false → numbers_from at (replicate n 20) s ≡ None
unfolding numbers_from
end-missing at zero s h = let e : at + 20 * 0 ≡ at = omega arith in rw (rw e at h)
end-missing at (suc n) s h =
    let e : at + 20 * suc n ≡ at + 20 + 20 * n = omega arith in
    rw (end-missing (at + 20) n s (rw e at h)) (and_none (number_shown (slice at (at + 20) s)))

-- the mask or the fill is too large
limits-bad : (n a b : ℕ) (o : Option (List ℕ)) → (ltb a (2 ^ n) && leb b 255) ≡ false → in_limits n (and_then (Some a) (and_then (Some b) o)) ≡ None
unfolding in_limits
limits-bad n a b None h = refl
limits-bad n a b (Some us) h = rw h

module _ (n s : ℕ) (line : List ℕ) where
  line-columns :
      run_numbers n s line
      ≡ in_limits n (and_then (number_shown (slice 0 4 line)) (and_then (number_shown (slice 4 8 line)) (numbers_from 8 (replicate s 20) line)))
  unfolding run_numbers run_widths numbers_shown numbers_from
  line-columns = refl

  -- ---- each way to show nothing

  pub patterns-bad : None ≡ numbers_from 8 (replicate s 20) line → None ≡ run_numbers n s line
  unfolding in_limits
  patterns-bad e = sym (line-columns ∙ rw (← e, and_none (number_shown (slice 4 8 line)), and_none (number_shown (slice 0 4 line))))

  pub length-bad : (length line ≡ 8 + 20 * s + 1 → ⊥) → None ≡ run_numbers n s line
  length-bad h =
      patterns-bad (sym (end-missing 8 s line (and-false-left (eqb (get_or line (8 + 20 * s) 0) 10) (ne_eqb (length line) (8 + 20 * s + 1) h))))

  pub end-bad : (get_or line (8 + 20 * s) 0 ≡ 10 → ⊥) → None ≡ run_numbers n s line
  end-bad h =
      patterns-bad (sym (end-missing 8 s line (and-false-right (eqb (length line) (8 + 20 * s + 1)) (ne_eqb (get_or line (8 + 20 * s) 0) 10 h))))

  pub mask-bad : None ≡ number_shown (slice 0 4 line) → None ≡ run_numbers n s line
  unfolding in_limits
  mask-bad e = sym (line-columns ∙ rw (← e))

  pub fill-bad : None ≡ number_shown (slice 4 8 line) → None ≡ run_numbers n s line
  unfolding in_limits
  fill-bad e = sym (line-columns ∙ rw (← e, and_none (number_shown (slice 0 4 line))))

  -- ---- a mask and a fill that are read

  module _ {a b : ℕ} (p : Some a ≡ number_shown (slice 0 4 line)) (q : Some b ≡ number_shown (slice 4 8 line)) where
    line-limits : run_numbers n s line ≡ in_limits n (and_then (Some a) (and_then (Some b) (numbers_from 8 (replicate s 20) line)))
    line-limits = rw (p, q) line-columns

    pub mask-large : (a / 2 ^ n ≡ 0 → ⊥) → None ≡ run_numbers n s line
    mask-large h =
        sym (line-limits ∙ limits-bad n a b (numbers_from 8 (replicate s 20) line) (and-false-left (leb b 255) (sym (mask_fits a n) ∙ ne_eqb (a / 2 ^ n) 0 h)))

    pub fill-large : 255 < b → None ≡ run_numbers n s line
    fill-large h =
        sym (line-limits ∙ limits-bad n a b (numbers_from 8 (replicate s 20) line) (and-false-right (ltb a (2 ^ n)) (lt-leb b 255 h)))

    pub line-whole : {vs : List ℕ} → a / 2 ^ n ≡ 0 → b ≤ 255 → Some vs ≡ numbers_from 8 (replicate s 20) line → Some (a ∷ b ∷ vs) ≡ run_numbers n s line
    unfolding in_limits
    line-whole h k e = sym (line-limits ∙ rw (← e, sym (mask_fits a n) ∙ eq-eqb (a / 2 ^ n) 0 h, le-leb b 255 k))
