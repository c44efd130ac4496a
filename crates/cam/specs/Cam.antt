-- Request 2026-01, 'Cut-off cam', on patterns.
use Rattle.std.specs.Prelude.{ℕ, ◌+◌, ◌-◌, ◌*◌, ◌/◌, ◌^◌, false, cond, ◌||◌, List, replicate, pos, is_nan, Float}
use Rattle.std.specs.Float.{fin, binary64}
use Rattle.std.specs.Float.Ieee.{lt, to_unsigned, of_int}
use Rattle.array.specs.Index.{fill}
use Rattle.pattern.specs.Pattern.{value_of, pattern_of}

-- "a position from 0 to 512"
abbrev pub last_position : ℕ
last_position = 512

-- "entry i is the whole part of (1536 × i² − 2 × i³ + 1024) / 2048"; at a position the difference is not below 0 (the law `entry-exact`)
unfoldable pub cam_entry : ℕ → ℕ
cam_entry i = (1536 * i ^ 2 - 2 * i ^ 3 + 1024) / 2048

-- "The cam is a constant table of 513 numbers"
abbrev pub cam_size : ℕ
cam_size = 513

unfoldable pub cam_table : List ℕ
cam_table = fill cam_entry cam_size (replicate cam_size 0)

-- 0 and 512 as floats
abbrev pub float_zero : Float
float_zero = fin false 0 (pos 0)

abbrev pub float_last : Float
float_last = fin false 1 (pos 9)

-- "Below 0 or NaN gives entry 0; above 512 gives entry 512", else "the entry at the whole part": `to_unsigned` drops the fraction
unfoldable pub cam_position : Float → ℕ
cam_position x = cond (is_nan x || lt x float_zero) 0 (cond (lt float_last x) last_position (to_unsigned 64 x))

-- "It reads cell a as a position .. and takes the entry at the whole part, as a float."
unfoldable pub cam_of : ℕ → ℕ
cam_of a = pattern_of (of_int binary64 (pos (cam_entry (cam_position (value_of a)))))
