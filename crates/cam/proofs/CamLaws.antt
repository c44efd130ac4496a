-- Laws of a cam's result: it is a pattern, of a value from 0 to 65,536.
use Rattle.std.proofs.Common.{◌≡◌, ℕ, ◌^◌, ◌<◌, ◌≤◌, false, T, pos, arith, lit<}
use lib.Ieee.{Float, fin, binary64, of_int, round, le}
use lib.Ieee.Bits.{of_bits-to_bits}
use lib.Ieee.Fits.{of_int-fits}
use lib.Ieee.Order.{round_mono}
use Rattle.pattern.specs.Constant.{Within}
use Rattle.pattern.specs.Pattern.{value_of}
use Rattle.pattern.proofs.PatternLaws.{pattern-bound}
use Rattle.cam.specs.Cam.{float_zero, cam_entry, cam_position, cam_of}
use Rattle.cam.proofs.TableLaws.{entry-bound}
use Rattle.cam.proofs.PositionLaws.{position-bound}

pub cam-bound : (a : ℕ) → cam_of a < 2 ^ 64
unfolding cam_of
cam-bound a = pattern-bound _ (of_int-fits binary64 (pos (cam_entry (cam_position (value_of a)))))

-- 65,536 as a float
abbrev pub float_most : Float
float_most = fin false 1 (pos 16)

-- a whole number up to 65,536, as a float
float-within : (n : ℕ) → n ≤ 65536 → T (le float_zero (of_int binary64 (pos n))) × T (le (of_int binary64 (pos n)) float_most)
unfolding of_int
float-within n h = (low, high)
  where
    low : T (le float_zero (round binary64 false n 1))
    low = round_mono binary64 0 1 n 1 (lit< tt) (lit< tt) (omega arith)

    high : T (le (round binary64 false n 1) float_most)
    high = round_mono binary64 n 1 65536 1 (lit< tt) (lit< tt) (omega arith)

pub cam-within : (a : ℕ) → Within float_zero float_most (cam_of a)
unfolding cam_of
cam-within a =
    let x : Float = of_int binary64 (pos (cam_entry (cam_position (value_of a)))) in
    let w = float-within (cam_entry (cam_position (value_of a))) (entry-bound _ (position-bound (value_of a))) in
    let v : value_of (cam_of a) ≡ x = of_bits-to_bits binary64 x (of_int-fits binary64 (pos (cam_entry (cam_position (value_of a))))) in
    record { above = rw v w.0; below = rw v w.1 }
