-- Laws of words, the first byte lowest: bytes stored, and a word's bytes.
use mathlib.Core.Path.{◌≡◌, ◌∙◌}
use mathlib.Core.List.{List, [], ◌∷◌}
use Prim.Native.Nat.{ℕ, suc, ◌+◌, ◌-◌, ◌/◌, ◌%◌, ◌≤◌, ◌<◌}
use native.Mathlib.Omega.{arith}
use lib.ListN.{length, get_or}
use Rattle.std.specs.Int.{w32, w64, from_le_bytes, to_le_bytes}
use Rattle.word.specs.Word.{word_at, bytes_of}

-- the lowest byte, and the others
module _ (m : ℕ) (s : List ℕ) (i : ℕ) (b : get_or s i 0 < 256) where
  pub word_at-low : word_at (suc m) s i % 256 ≡ get_or s i 0
  unfolding word_at
  word_at-low = omega (arith, b)

  pub word_at-rest : word_at (suc m) s i / 256 ≡ word_at m s (i + 1)
  unfolding word_at
  word_at-rest = omega (arith, b)

-- the library's numbers of four and of eight bytes

pub word-four : (s : List ℕ) (i : ℕ) → from_le_bytes w32 (get_or s i 0 ∷ get_or s (i + 1) 0 ∷ get_or s (i + 2) 0 ∷ get_or s (i + 3) 0 ∷ []) ≡ word_at 4 s i
unfolding word_at
word-four s i =
    let e₂ : i + 1 + 1 ≡ i + 2 = omega arith in
    let e₃ : i + 2 + 1 ≡ i + 3 = omega arith in
    rw (e₂, e₃) (omega arith)

pub word-eight :
    (s : List ℕ) (i : ℕ) →
    from_le_bytes w64 (
    get_or s i 0
    ∷ get_or s (i + 1) 0
    ∷ get_or s (i + 2) 0
    ∷ get_or s (i + 3) 0
    ∷ get_or s (i + 4) 0
    ∷ get_or s (i + 5) 0
    ∷ get_or s (i + 6) 0
    ∷ get_or s (i + 7) 0
    ∷ []
    )
    ≡ word_at 8 s i
unfolding word_at
word-eight s i =
    let e₂ : i + 1 + 1 ≡ i + 2 = omega arith in
    let e₃ : i + 2 + 1 ≡ i + 3 = omega arith in
    let e₄ : i + 3 + 1 ≡ i + 4 = omega arith in
    let e₅ : i + 4 + 1 ≡ i + 5 = omega arith in
    let e₆ : i + 5 + 1 ≡ i + 6 = omega arith in
    let e₇ : i + 6 + 1 ≡ i + 7 = omega arith in
    rw (e₂, e₃, e₄, e₅, e₆, e₇) (omega arith)

pub bytes-four : (w : ℕ) → to_le_bytes w32 (w % 4294967296) ≡ bytes_of 4 w
unfolding bytes_of
bytes-four w =
    let e₁ : w % 4294967296 % 256 ≡ w % 256 = omega arith in
    let e₂ : w % 4294967296 / 256 % 256 ≡ w / 256 % 256 = omega arith in
    let e₃ : w % 4294967296 / 65536 % 256 ≡ w / 256 / 256 % 256 = omega arith in
    let e₄ : w % 4294967296 / 16777216 % 256 ≡ w / 256 / 256 / 256 % 256 = omega arith in
    rw (e₁, e₂, e₃, e₄)

pub bytes-eight : (w : ℕ) → to_le_bytes w64 w ≡ bytes_of 8 w
unfolding bytes_of
bytes-eight w =
    let e₂ : w / 256 / 256 ≡ w / 65536 = omega arith in
    let e₃ : w / 65536 / 256 ≡ w / 16777216 = omega arith in
    let e₄ : w / 16777216 / 256 ≡ w / 4294967296 = omega arith in
    let e₅ : w / 4294967296 / 256 ≡ w / 1099511627776 = omega arith in
    let e₆ : w / 1099511627776 / 256 ≡ w / 281474976710656 = omega arith in
    let e₇ : w / 281474976710656 / 256 ≡ w / 72057594037927936 = omega arith in
    rw (e₂, e₃, e₄, e₅, e₆, e₇)
