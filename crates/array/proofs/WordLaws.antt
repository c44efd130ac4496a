-- Laws of big-endian words, over the width.
use mathlib.Core.Path.{◌≡◌, refl, sym, ap, ◌∙◌, subst}
use mathlib.Core.List.{List, [], ◌∷◌, ◌++◌, append_assoc}
use Prim.Native.Nat.{ℕ, zero, suc, ◌+◌, ◌-◌, ◌*◌, ◌/◌, ◌%◌, ◌^◌, ◌≤◌, ◌<◌}
use native.Mathlib.Omega.{arith}
use native.Mathlib.Nat.{add-zero, zero-add, div-add-mod', pow-suc, div-lt_iff_lt-mul, add-sub_cancel_left}
use native.Mathlib.Numerals.{add-one}
use lib.Dec.{lit<}
use lib.ListN.{length, get_or, set, take, drop, length-append}
use Rattle.std.proofs.Common.{drop-drop, drop_of_length-le, add-suc}
use Rattle.std.proofs.lemmas.List.{drop-append-le}
use borrow.Rule.Slice.PartMut.{put_mid}
use Rattle.std.specs.Int.{w16, w64, from_be_bytes, to_be_bytes}
use Rattle.array.specs.Index.{from}
use Rattle.array.specs.Code.{placed}
use Rattle.array.specs.Word.{be, bytes}
use Rattle.array.proofs.PlacesLaws.{Holds, holds-left, holds-right, holds-entry, from_at}

pub bytes-length : (n x : ℕ) → length (bytes n x) ≡ n
unfolding bytes
bytes-length zero x = refl
bytes-length (suc n) x = length-append (bytes n (x / 256)) (x % 256 ∷ []) ∙ rw (bytes-length n (x / 256)) (add-one n)

-- the library's numbers of two and of eight bytes

pub be-two : (s : List ℕ) (at : ℕ) → from_be_bytes w16 (get_or s at 0 ∷ get_or s (at + 1) 0 ∷ []) ≡ be 2 s at
unfolding be
be-two s at = rw add-zero (omega arith)

pub be-eight :
    (s : List ℕ) (at : ℕ) →
    from_be_bytes w64 (
    get_or s at 0
    ∷ get_or s (at + 1) 0
    ∷ get_or s (at + 2) 0
    ∷ get_or s (at + 3) 0
    ∷ get_or s (at + 4) 0
    ∷ get_or s (at + 5) 0
    ∷ get_or s (at + 6) 0
    ∷ get_or s (at + 7) 0
    ∷ []
    )
    ≡ be 8 s at
unfolding be
be-eight s at = rw add-zero (omega arith)

pub bytes-two : (x : ℕ) → to_be_bytes w16 x ≡ bytes 2 x
unfolding bytes
bytes-two x = refl

pub bytes-eight : (x : ℕ) → to_be_bytes w64 x ≡ bytes 8 x
unfolding bytes
bytes-eight x =
    let e₂ : x / 256 / 256 ≡ x / 65536 = omega arith in
    let e₃ : x / 65536 / 256 ≡ x / 16777216 = omega arith in
    let e₄ : x / 16777216 / 256 ≡ x / 4294967296 = omega arith in
    let e₅ : x / 4294967296 / 256 ≡ x / 1099511627776 = omega arith in
    let e₆ : x / 1099511627776 / 256 ≡ x / 281474976710656 = omega arith in
    let e₇ : x / 281474976710656 / 256 ≡ x / 72057594037927936 = omega arith in
    rw (e₂, e₃, e₄, e₅, e₆, e₇)

-- a list of bytes is read to a number below 256 ^ n
pub be-bound : (n : ℕ) (s : List ℕ) (at : ℕ) → ((i : ℕ) → get_or s i 0 < 256) → be n s at < 256 ^ n
unfolding be
be-bound zero s at b = lit< tt
be-bound (suc n) s at b = rw pow-suc (omega (arith, be-bound n s at b, b (at + n)))

-- a number written in n bytes is read back
pub be-of-bytes : (n x at : ℕ) (s : List ℕ) → x < 256 ^ n → Holds s at (bytes n x) → be n s at ≡ x
unfolding be bytes
be-of-bytes zero x at s l h = omega arith
be-of-bytes (suc n) x at s l h = rw (be-of-bytes n (x / 256) at s ((div-lt_iff_lt-mul (lit< tt)).1 (rw pow-suc at l)) (holds-left (bytes n (x / 256)) (x % 256 ∷ []) h), last) (div-add-mod' x 256)
  where
    end : Holds s (at + n) (x % 256 ∷ [])
    end = subst (λ (k : ℕ). Holds s (at + k) (x % 256 ∷ [])) (bytes-length n (x / 256)) (holds-right (bytes n (x / 256)) (x % 256 ∷ []) h)

    last : get_or s (at + n) 0 ≡ x % 256
    last = holds-entry 0 end

-- a word within a part
pub be-part : (n : ℕ) (s : List ℕ) (at w o : ℕ) → o + n ≤ w → be n s (at + o) ≡ be n (from 0 s at w) o
unfolding be
be-part zero s at w o l = refl
be-part (suc n) s at w o l =
    let z : at + o + n ≡ at + (o + n) = omega arith in
    rw (be-part n s at w o (omega arith), z, from_at 0 s at w (o + n) (omega arith))

-- a part stored at its place
pub part-stored : (s t u : List ℕ) (at k : ℕ) → t ≡ u → put_mid at (at + k - at) s t ≡ take at s ++ (u ++ drop (at + k) s)
part-stored s t u at k e = rw (e, add-sub_cancel_left at k, drop-drop k at s)

pub part-placed : (s t u : List ℕ) (at k : ℕ) → t ≡ u → length u ≡ k → put_mid at (at + k - at) s t ≡ placed s at u
part-placed s t u at k e l = rw (part-stored s t u at k e, l)

-- the last bytes of a number's are those of its low part
pub last_bytes : (m n x : ℕ) → drop m (bytes (m + n) x) ≡ bytes n x
unfolding bytes
last_bytes m zero x = rw add-zero (drop_of_length-le (bytes m x) (omega (arith, bytes-length m x)))
last_bytes m (suc n) x =
    let l : m ≤ length (bytes (m + n) (x / 256)) = omega (arith, bytes-length (m + n) (x / 256)) in
    rw (add-suc, drop-append-le m (bytes (m + n) (x / 256)) (x % 256 ∷ []) l, last_bytes m n (x / 256))

pub last-of-eight : (n x : ℕ) → n ≤ 8 → drop (8 - n) (to_be_bytes w64 x) ≡ bytes n x
last-of-eight n x l =
    let e : 8 - n + n ≡ 8 = omega arith in
    ap (drop (8 - n)) (bytes-eight x ∙ ap (λ (k : ℕ). bytes k x) (sym e)) ∙ last_bytes (8 - n) n x
