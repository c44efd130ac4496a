-- Laws of a cam's position: its cases by the code's two tests, that a whole part can be taken there, and that it is at most 512.
use Rattle.std.proofs.Common.{◌≡◌, ℕ, ◌+◌, ◌-◌, ◌*◌, ◌/◌, ◌^◌, ◌≤◌, true, false, ◌&&◌, ◌||◌, T, eqb, ltb, pos, refl, subst, zero-le, le_refl, arith, lt→ltb, ltb-false, le-ltb, eqb-true}
use native.Mathlib.Nat.{div-le_of_le-mul}
use lib.Ieee.{Float, nan, inf, fin, is_nan, lt, eq, le, up, down, to_unsigned}
use lib.Ieee.Fits.{down_pos}
use Rattle.array.proofs.TestLaws.{split, clash, and_left}
use Rattle.pattern.proofs.FloatLaws.{not-lt}
use Rattle.cam.specs.Cam.{last_position, float_zero, float_last, cam_position}

-- ---- a value that is at least 0

-- −0 is the one that has a sign
unsigned-or-zero : (m d : ℕ) → (false || (eqb (0 * 1 * d) (m * 1) && (false || eqb (0 * 1 * d) 0))) ≡ true → m ≡ 0
unsigned-or-zero m d e = let h : 0 * 1 * d ≡ m * 1 = eqb-true _ _ (and_left _ _ e) in omega arith

not-below-zero : (x : Float) → le float_zero x ≡ true → (is_nan x || lt x float_zero) ≡ false
unfolding is_nan lt eq le
not-below-zero nan e = absurd (clash e refl)
not-below-zero (inf true) e = absurd (clash e refl)
not-below-zero (inf false) e = refl
not-below-zero (fin false m i) e = le-ltb (m * up i * 1) (0 * 1 * down i) (omega arith)
not-below-zero (fin true m i) e =
    let h : m * up i ≡ 0 = unsigned-or-zero (m * up i) (down i) e in
    le-ltb 0 (m * up i * 1 + 0 * 1 * down i) (omega arith)

-- ---- the cases

module _ (x : Float) where
  pub position_first : le float_zero x ≡ false → cam_position x ≡ 0
  unfolding cam_position is_nan
  position_first e =
      split (is_nan x) (λ n. rw n)
      (λ n. split (lt x float_zero) (λ t. rw (n, t)) (λ t. absurd (subst T e (not-lt x float_zero n refl t))))

  pub position-last : le float_zero x ≡ true → lt float_last x ≡ true → cam_position x ≡ last_position
  unfolding cam_position
  position-last e h = rw (not-below-zero x e, h)

  pub position-whole : le float_zero x ≡ true → lt float_last x ≡ false → cam_position x ≡ to_unsigned 64 x
  unfolding cam_position
  position-whole e h = rw (not-below-zero x e, h)

-- ---- the whole part of a value from 0 to 512

pub whole-low : (x : Float) → le float_zero x ≡ true → T (lt (fin true 1 (pos 0)) x)
unfolding lt eq le
whole-low nan e = absurd (clash e refl)
whole-low (inf true) e = absurd (clash e refl)
whole-low (inf false) e = tt
whole-low (fin false m i) e = lt→ltb 0 (1 * 1 * down i + m * up i * 1) (omega (arith, down_pos i))
whole-low (fin true m i) e =
    let h : m * up i ≡ 0 = unsigned-or-zero (m * up i) (down i) e in
    lt→ltb (m * up i * 1) (1 * 1 * down i) (omega (arith, down_pos i))

-- the magnitude is at most 512
at-most-last : (m d : ℕ) → ltb (1 * 512 * d) (m * 1) ≡ false → m ≤ d * 512
at-most-last m d e = omega (arith, ltb-false (1 * 512 * d) (m * 1) e)

pub whole-high : (x : Float) → le float_zero x ≡ true → lt float_last x ≡ false → T (lt x (fin false 1 (pos 64)))
unfolding lt eq le
whole-high nan e h = absurd (clash e refl)
whole-high (inf true) e h = absurd (clash e refl)
whole-high (inf false) e h = absurd (clash refl h)
whole-high (fin false m i) e h =
    lt→ltb (m * up i * 1) (1 * 2 ^ 64 * down i) (omega (arith, at-most-last (m * up i) (down i) h, down_pos i))
whole-high (fin true m i) e h = lt→ltb 0 (m * up i * 1 + 1 * 2 ^ 64 * down i) (omega (arith, down_pos i))

whole-bound : (x : Float) → le float_zero x ≡ true → lt float_last x ≡ false → to_unsigned 64 x ≤ last_position
unfolding lt eq le to_unsigned
whole-bound nan e h = absurd (clash e refl)
whole-bound (inf true) e h = absurd (clash e refl)
whole-bound (inf false) e h = absurd (clash refl h)
whole-bound (fin false m i) e h =
    let q : m * up i / down i ≤ last_position = div-le_of_le-mul (down i) (at-most-last (m * up i) (down i) h) in
    omega arith
whole-bound (fin true m i) e h = zero-le

-- a definition that goes by position never looks past the last one
pub position-bound : (x : Float) → cam_position x ≤ last_position
position-bound x =
    split (le float_zero x)
    (λ e. split (lt float_last x) (λ h. rw (position-last x e h) (le_refl last_position)) (λ h. rw (position-whole x e h) (whole-bound x e h)))
    (λ e. rw (position_first x e) zero-le)
