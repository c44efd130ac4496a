-- "Limit and Wind results thus lie within their bounds", for the constants that a plan allows.
use Prim.Native.Nat.{ℕ, ◌*◌}
use mathlib.Core.Path.{◌≡◌, refl, sym, subst, ◌∙◌}
use mathlib.Core.Bool.{Bool, true, false, ◌||◌}
use lib.Dec.{T}
use lib.Ieee.{Float, nan, inf, fin, binary64, is_nan, lt, eq, le, neg, fits, up, down}
use lib.Ieee.Bits.{nan_bits_is, of_bits-to_bits}
use lib.Ieee.Fits.{neg-fits}
use Rattle.pattern.specs.declared.WindLaw.{WindLaw}
use Rattle.pattern.specs.Pattern.{is_nan_of, value_of, pattern_of, limit_of, wind_limit_of, wind_of}
use Rattle.pattern.specs.Constant.{is_finite, finite_unsigned, Within}
use Rattle.pattern.proofs.FloatLaws.{not-below, not-lt, le-reflexive}
use Rattle.pattern.proofs.PatternLaws.{limit-low, limit-high, limit-own}

finite-no-nan : (x : Float) → T (is_finite x) → is_nan x ≡ false
unfolding is_finite is_nan
finite-no-nan nan h = absurd h
finite-no-nan (inf s) h = refl
finite-no-nan (fin s m e) h = refl

finite-of-unsigned : (x : Float) → T (finite_unsigned x) → T (is_finite x)
unfolding is_finite finite_unsigned
finite-of-unsigned nan h = h
finite-of-unsigned (inf s) h = h
finite-of-unsigned (fin s m e) h = tt

neg-finite : (x : Float) → T (is_finite x) → T (is_finite (neg x))
unfolding is_finite neg
neg-finite nan h = h
neg-finite (inf s) h = h
neg-finite (fin s m e) h = tt

or-false : (a b : Bool) → (a || b) ≡ false → (a ≡ false) × (b ≡ false)
or-false false b e = (refl, e)
or-false true b e = absurd (subst T e tt)

-- an f64's value fits binary64, so the first two premises hold of every f64
pub limit-within :
    (a : ℕ) (low high : Float) →
    T (fits binary64 low) →
    T (fits binary64 high) →
    T (is_finite low) →
    T (is_finite high) →
    T (le low high) →
    Within low high (limit_of a low high)
limit-within a low high f g lf hf h = by (lt (value_of a) low || is_nan_of a) refl (lt high (value_of a)) refl
  where
    at_low : limit_of a low high ≡ pattern_of low → Within low high (limit_of a low high)
    at_low e =
        let v : value_of (limit_of a low high) ≡ low = rw e (of_bits-to_bits binary64 low f) in
        record { above = rw v (le-reflexive low (finite-no-nan low lf)); below = rw v h }

    at_high : limit_of a low high ≡ pattern_of high → Within low high (limit_of a low high)
    at_high e =
        let v : value_of (limit_of a low high) ≡ high = rw e (of_bits-to_bits binary64 high g) in
        record { above = rw v h; below = rw v (le-reflexive high (finite-no-nan high hf)) }

    by : (l : Bool) → (lt (value_of a) low || is_nan_of a) ≡ l → (u : Bool) → lt high (value_of a) ≡ u → Within low high (limit_of a low high)
    by true p u q = at_low (limit-low a low high p)
    by false p true q = at_high (limit-high a low high p q)
    by false p false q =
        let n = or-false (lt (value_of a) low) (is_nan_of a) p in
        let own : is_nan (value_of a) ≡ false = sym (nan_bits_is binary64 a) ∙ n.1 in
        rw (limit-own a low high p q)
        (record { above = not-lt (value_of a) low own (finite-no-nan low lf) n.0; below = not-lt high (value_of a) (finite-no-nan high hf) own q })

-- −cap ≤ cap for a cap with sign bit 0, +0 among them
cap-order : (x : Float) → T (finite_unsigned x) → T (le (neg x) x)
unfolding finite_unsigned neg le lt eq
cap-order nan h = absurd h
cap-order (inf s) h = absurd h
cap-order (fin true m e) h = absurd h
cap-order (fin false m e) h = not-below false true (m * up e * down e) (m * up e * down e) refl

pub wind-within :
    (old a : ℕ) (law : WindLaw) →
    T (fits binary64 law.cap) →
    T (finite_unsigned law.cap) →
    Within (neg law.cap) law.cap (wind_of old a law)
unfolding wind_of wind_limit_of
wind-within old a law f u =
    let c : T (is_finite law.cap) = finite-of-unsigned law.cap u in
    limit-within _ (neg law.cap) law.cap (neg-fits binary64 law.cap f) f (neg-finite law.cap c) c (cap-order law.cap u)
