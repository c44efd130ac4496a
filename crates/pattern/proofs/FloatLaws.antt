-- Laws of floats: NaN, and the order.
use Prim.Native.Nat.{ℕ, ◌≤◌, ◌<◌, ◌*◌, ◌+◌, zero-le}
use native.Mathlib.Nat.{eq-or-lt_of_le, le_refl}
use native.Mathlib.Omega.{arith}
use mathlib.Core.Path.{◌≡◌, refl, sym, subst}
use mathlib.Core.Bool.{Bool, true, false, not, ◌||◌, ◌&&◌}
use mathlib.Core.Logic.{⊎_elim}
use lib.Dec.{T, ltb, eqb, lt→ltb}
use lib.Ieee.{Float, nan, inf, fin, is_nan, lt, le, ne, below, level, up, down}
use borrow.Author.Tests.{ltb-false, le-ltb, eq-eqb}

-- a test that is true or false, as a fact
pub holds : {b : Bool} → b ≡ true → T b
holds e = subst T (sym e) tt

pub fails : {b : Bool} → b ≡ false → T (not b)
fails e = subst (λ (t : Bool). T (not t)) (sym e) tt

-- ---- NaN

pub nan-only : (x : Float) → is_nan x ≡ true → x ≡ nan
unfolding is_nan
nan-only nan e = refl
nan-only (inf s) e = cc
nan-only (fin s m i) e = cc

-- a value that does not differ from itself is no NaN
pub same-no-nan : (x : Float) → ne x x ≡ false → T (not (is_nan x))
unfolding is_nan ne
same-no-nan nan e = absurd (subst T e tt)
same-no-nan (inf s) e = tt
same-no-nan (fin s m i) e = tt

-- ---- the order

or_left : (b c : Bool) → T b → T (b || c)
or_left true c t = tt
or_left false c t = elim t [ ]

or_right : (b c : Bool) → T c → T (b || c)
or_right true c t = tt
or_right false c t = t

-- two magnitudes: one is below the other, or they are equal, in the forms that `below` and `level` have
less-or-same : (p q z : Bool) (a b : ℕ) → (a < b → T p) → (a ≡ b → T (q && z)) → a ≤ b → T (p || (q && z))
less-or-same p q z a b l e h = ⊎_elim (λ i. or_right p (q && z) (e i)) (λ i. or_left p (q && z) (l i)) (eq-or-lt_of_le h)

both_zero : (a b : ℕ) → a + b ≤ 0 → T (eqb b a && (false || eqb b 0))
both_zero a b h =
    let p : a ≡ 0 = omega arith in
    let q : b ≡ 0 = omega arith in
    rw (p, q) tt

-- what is not below is level or above
pub not-below : (s t : Bool) (a b : ℕ) → below s a t b ≡ false → T (below t b s a || level t b s a)
not-below false false a b e =
    less-or-same (ltb b a) (eqb b a) true b a (lt→ltb b a) (λ i. rw (eq-eqb b a i) tt) (ltb-false a b e)
not-below false true a b e =
    less-or-same (ltb 0 (b + a)) (eqb b a) (false || eqb b 0) 0 (b + a) (lt→ltb 0 (b + a))
    (λ i. both_zero a b (omega arith)) (zero-le)
not-below true false a b e = both_zero a b (ltb-false 0 (a + b) e)
not-below true true a b e =
    less-or-same (ltb a b) (eqb b a) true a b (lt→ltb a b) (λ i. rw (eq-eqb b a (sym i)) tt) (ltb-false b a e)

pub not-lt : (x y : Float) → is_nan x ≡ false → is_nan y ≡ false → lt x y ≡ false → T (le y x)
unfolding is_nan lt le
not-lt nan y p q e = absurd (subst T p tt)
not-lt (inf s) nan p q e = absurd (subst T q tt)
not-lt (fin s m i) nan p q e = absurd (subst T q tt)
not-lt (inf true) (inf true) p q e = tt
not-lt (inf true) (inf false) p q e = absurd (subst T e tt)
not-lt (inf false) (inf true) p q e = tt
not-lt (inf false) (inf false) p q e = tt
not-lt (inf true) (fin t n d) p q e = absurd (subst T e tt)
not-lt (inf false) (fin t n d) p q e = tt
not-lt (fin s m i) (inf true) p q e = tt
not-lt (fin s m i) (inf false) p q e = absurd (subst T e tt)
not-lt (fin s m i) (fin t n d) p q e = not-below s t (m * up i * down d) (n * up d * down i) e

pub lt-irreflexive : (x : Float) → lt x x ≡ false
unfolding lt
lt-irreflexive nan = refl
lt-irreflexive (inf true) = refl
lt-irreflexive (inf false) = refl
lt-irreflexive (fin true m i) = le-ltb _ _ (le_refl (m * up i * down i))
lt-irreflexive (fin false m i) = le-ltb _ _ (le_refl (m * up i * down i))

pub le-reflexive : (x : Float) → is_nan x ≡ false → T (le x x)
le-reflexive x h = not-lt x x h h (lt-irreflexive x)
