-- The rule's products at a position from 0 to 512: squares, cubes and how large they are.
use mathlib.Core.Path.{◌≡◌, ◌∙◌}
use Prim.Native.Nat.{ℕ, ◌*◌, ◌^◌, ◌≤◌}
use native.Mathlib.Nat.{pow-zero, pow-suc, one-mul, mul-le-mul, mul-le-mul_left}

pub square-is : (i : ℕ) → i * i ≡ i ^ 2
square-is i = let e : i ^ 1 ≡ i = pow-suc i 0 ∙ rw (pow-zero i) (one-mul i) in rw (pow-suc i 1, e)

pub cube-is : (i : ℕ) → i * i * i ≡ i ^ 3
cube-is i = rw (pow-suc i 2, square-is i)

module _ (i : ℕ) (l : i ≤ 512) where
  pub square-bound : i * i ≤ 262144
  square-bound = mul-le-mul l l

  pub cube-bound : i * i * i ≤ i * i * 512
  cube-bound = mul-le-mul_left (i * i) l
