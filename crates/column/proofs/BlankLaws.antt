-- Blanks passed over a word at a time: over the word's width m.
use Rattle.std.proofs.Common.{◌≡◌, ℕ, zero, suc, ◌+◌, ◌*◌, ◌/◌, ◌%◌, ◌^◌, ◌<◌, ◌≤◌, eqb, List, length, get_or, replicate, sym, refl, ap, ◌∙◌, add-zero, pow-suc, arith, lit<, eq-eqb, ne_eqb, eqb-true}
use native.Mathlib.Nat.{one-le-pow}
use lib.Arith.{mod-mul}
use lib.Seq.{slice}
use lib.Count.{count_trailing_zeros}
use borrow.Author.Tests.{eqb-false}
use Rattle.array.proofs.TestLaws.{split}
use Rattle.word.specs.Word.{word_of, word_at, low_run}
use Rattle.word.proofs.WordLaws.{word_at-low, word_at-rest}
use Rattle.word.proofs.ZeroLaws.{zeros-of-trailing}
use Rattle.column.specs.Column.{drop_blanks}
use Rattle.column.proofs.ReadingLaws.{blanks-skip, blanks-stop}

pub run-le : (m w : ℕ) → low_run 32 m w ≤ m
unfolding low_run
run-le zero w = omega arith
run-le (suc m) w =
    split (eqb (w % 256) 32) (λ t. rw t (omega (arith, run-le m (w / 256)))) (λ t. rw t (omega arith))

-- ---- the difference from blanks

-- up to the first other byte, a blank is a zero byte of the difference: nothing is borrowed before that byte
difference_zeros : (m x w : ℕ) → (x + word_of (replicate m 32)) % 256 ^ m ≡ w → low_run 0 m x ≡ low_run 32 m w
unfolding low_run word_of
difference_zeros zero x w e = refl
difference_zeros (suc m) x w e =
    let b = word_of (replicate m 32) in
    let y = x + (32 + 256 * b) in
    let h : y % 256 ^ suc m ≡ (y / 256 % 256 ^ m) * 256 + y % 256 = rw (pow-suc 256 m) (mod-mul y (one-le-pow m 256 (lit< tt)) (lit< tt)) in
    let f : y % 256 ^ suc m ≡ w = e in
    split (eqb (x % 256) 0)
    (λ t.
    let z = eqb-true (x % 256) 0 t in
    let g : y / 256 ≡ x / 256 + b = omega arith in
    let q : w / 256 ≡ (x / 256 + b) % 256 ^ m = rw (← g) (omega arith) in
    let k : w % 256 ≡ 32 = omega arith in
    rw (t, eq-eqb (w % 256) 32 k) (ap suc (difference_zeros m (x / 256) (w / 256) (sym q))))
    (λ t. rw (t, ne_eqb (w % 256) 32 (λ k. eqb-false (x % 256) 0 t (omega arith))))

pub trailing-blanks : (m x w : ℕ) → (x + word_of (replicate m 32)) % 256 ^ m ≡ w → count_trailing_zeros (8 * m) x / 8 ≡ low_run 32 m w
trailing-blanks m x w e = zeros-of-trailing m x ∙ difference_zeros m x w e

-- ---- a word of the line

module _ (s : List ℕ) (fits : (k : ℕ) → get_or s k 0 < 256) where
  word_none : (i : ℕ) → word_at 0 s i ≡ 0
  unfolding word_at
  word_none i = refl

  -- nothing but blanks
  pub word-skip :
      (m i t : ℕ) →
      i + m ≤ t →
      t ≤ length s →
      word_at m s i ≡ word_of (replicate m 32) →
      drop_blanks (slice i t s) ≡ drop_blanks (slice (i + m) t s)
  unfolding word_of
  word-skip zero i t h l e = rw (add-zero i)
  word-skip (suc m) i t h l e =
      let f : i + 1 + m ≡ i + suc m = omega arith in
      let b : get_or s i 0 ≡ 32 = omega (arith, word_at-low m s i (fits i)) in
      let r : word_at m s (i + 1) ≡ word_of (replicate m 32) = omega (arith, word_at-rest m s i (fits i)) in
      blanks-skip s i t (omega arith) l b
      ∙ word-skip m (i + 1) t (omega arith) l r
      ∙ ap (λ (k : ℕ). drop_blanks (slice k t s)) f

  -- another byte among them
  pub word-stop :
      (m i t : ℕ) →
      i + m ≤ t →
      t ≤ length s →
      (word_at m s i ≡ word_of (replicate m 32) → ⊥) →
      drop_blanks (slice i t s) ≡ slice (i + low_run 32 m (word_at m s i)) t s
  unfolding word_of low_run
  word-stop zero i t h l e = absurd (e (word_none i))
  word-stop (suc m) i t h l e =
      let a = word_at-low m s i (fits i) in
      let r = word_at-rest m s i (fits i) in
      split (eqb (get_or s i 0) 32)
      (λ z.
      let b = eqb-true (get_or s i 0) 32 z in
      let n = low_run 32 m (word_at m s (i + 1)) in
      let f : i + 1 + n ≡ i + suc n = omega arith in
      rw (a, r, z)
      (blanks-skip s i t (omega arith) l b
      ∙ word-stop m (i + 1) t (omega arith) l (λ q. e (omega arith))
      ∙ ap (λ (k : ℕ). slice k t s) f))
      (λ z. rw (a, z, add-zero i) (blanks-stop s i t (omega arith) l (eqb-false (get_or s i 0) 32 z)))
