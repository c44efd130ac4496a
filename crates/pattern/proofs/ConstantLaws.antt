-- Laws of the constants that a plan allows, as the code tests them.
use Prim.Native.Nat.{ℕ, zero, suc, ◌/◌, ◌%◌, ◌+◌, ◌^◌}
use mathlib.Core.Path.{◌≡◌, refl, sym, ◌∙◌, ap, subst}
use mathlib.Core.Bool.{Bool, true, false, not, cond, ◌&&◌}
use lib.Dec.{T, ltb, leb, eqb}
use borrow.Author.Tests.{leb-true, leb-false, le-ltb, lt-ltb}
use lib.Ieee.{Float, Format, nan, inf, fin, binary64, of_bits, of_fields, odd, to_bits, fits, is_nan, lt, prec, low, hid, ones, top}
use lib.Ieee.Bits.{of_bits-to_bits}
use Rattle.pattern.specs.Constant.{is_finite, finite_unsigned}

pub finite-between : (x : Float) → (lt x (inf false) && lt (inf true) x) ≡ is_finite x
unfolding lt is_finite
finite-between nan = refl
finite-between (inf true) = refl
finite-between (inf false) = refl
finite-between (fin s m e) = refl

pub finite-no-nan : (x : Float) → is_finite x ≡ true → T (not (is_nan x))
unfolding is_nan is_finite
finite-no-nan nan h = subst T (sym h) tt
finite-no-nan (inf s) h = tt
finite-no-nan (fin s m e) h = tt

pub finite-of-unsigned : (x : Float) → is_finite x ≡ false → false ≡ finite_unsigned x
unfolding is_finite finite_unsigned
finite-of-unsigned nan h = refl
finite-of-unsigned (inf s) h = refl
finite-of-unsigned (fin s m e) h = absurd (subst T h tt)

-- ---- the sign bit

odd-unsigned : (d : ℕ) (s : Bool) (q k l : ℕ) → finite_unsigned (odd d s q k l) ≡ not s
unfolding odd finite_unsigned
odd-unsigned d s zero k l = refl
odd-unsigned d s (suc q) k l = refl

picked :
    (a b s : Bool) (v : Float) →
    finite_unsigned v ≡ not s →
    is_finite (cond a (cond b (inf s) nan) v) ≡ true →
    finite_unsigned (cond a (cond b (inf s) nan) v) ≡ not s
unfolding is_finite
picked true true s v h f = absurd (subst T (sym f) tt)
picked true false s v h f = absurd (subst T (sym f) tt)
picked false b s v h f = h

fields-unsigned : (f : Format) (s : Bool) (x t : ℕ) → is_finite (of_fields f s x t) ≡ true → finite_unsigned (of_fields f s x t) ≡ not s
unfolding of_fields
fields-unsigned f s zero t h = odd-unsigned (prec f) s t 0 (low f)
fields-unsigned f s (suc x) t h =
    picked (eqb (suc x) (ones f)) (eqb t 0) s (odd (prec f) s (hid f + t) x (low f)) (odd-unsigned (prec f) s (hid f + t) x (low f)) h

not-leb : (a b : ℕ) → not (leb a b) ≡ ltb b a
not-leb a b = go (leb a b) refl
  where
    go : (t : Bool) → leb a b ≡ t → not t ≡ ltb b a
    go true e = sym (le-ltb b a (leb-true a b e))
    go false e = sym (lt-ltb b a (leb-false a b e))

-- a finite value is unsigned where its pattern is below 2^63
pub unsigned-below : (x : Float) → T (fits binary64 x) → is_finite x ≡ true → ltb (to_bits binary64 x) (2 ^ 63) ≡ finite_unsigned x
unfolding of_bits
unsigned-below x f h =
    let b = to_bits binary64 x in
    let back = of_bits-to_bits binary64 x f in
    sym (not-leb (2 ^ 63) b)
    ∙ sym (fields-unsigned binary64 (leb (2 ^ 63) b) (b % top binary64 / hid binary64) (b % hid binary64) (rw back h))
    ∙ ap finite_unsigned back
