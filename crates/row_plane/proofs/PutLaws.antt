-- Laws of what is put out: a good node's word, a bad node's pattern in the fault bytes, and what the plane hands on of them.
use Rattle.std.specs.Prelude.{Option, Some}
use mathlib.Core.Path.{◌≡◌, sym, ap, ◌∙◌}
use mathlib.Core.Bool.{true, false}
use mathlib.Core.List.{List}
use Prim.Native.Nat.{ℕ, ◌+◌, ◌*◌, ◌≤◌, ◌<◌}
use native.Mathlib.Omega.{arith}
use native.Mathlib.Numerals.{add-one}
use lib.ListN.{get_or}
use Rattle.array.specs.Bit.{bit}
use Rattle.array.specs.Word.{be}
use Rattle.plan.specs.declared.Sizes.{Sizes}
use Rattle.plan.specs.Limits.{most_cells}
use Rattle.ballot.specs.Plane.{plane}
use Rattle.ballot.specs.Code.{packed, Told}
use Rattle.ballot.proofs.BinLaws.{told-plane}
use Rattle.memory.specs.Size.{pattern_size}
use Rattle.system.specs.Fault.{setpoint_size, fault_setpoint_at, fault_setpoint}
use Rattle.system.proofs.FaultLaws.{setpoint-room}
use Rattle.faults.specs.Code.{Parts}
use Rattle.row_plane.specs.Code.{put_from}

-- a bad node's pattern lies in the bytes
pub setpoint-in : (s : Sizes) (mask len j a : ℕ) {at : ℕ} → Parts s mask len → j < s.nodes → bit mask j ≡ true → a < s.actuators → at ≡ fault_setpoint_at s j a → at + setpoint_size ≤ len
setpoint-in s mask len j a h l t k e = omega (arith, h j l t, setpoint-room s j a k)

module _ (s : Sizes) (mask : ℕ) (faults cells : List ℕ) (cell a j : ℕ) {w : ℕ} where
  pub put-bad : {at : ℕ} → bit mask j ≡ true → at ≡ fault_setpoint_at s j a → w ≡ be pattern_size faults at → put_from s mask faults cells cell a j ≡ Some w
  unfolding fault_setpoint
  put-bad t e f = rw t (ap Some (rw (← e) (sym f)))

  pub put-good : bit mask j ≡ false → w ≡ get_or cells (most_cells * (j + 1) + cell) 0 → put_from s mask faults cells cell a j ≡ Some w
  put-good t f = rw t (ap Some (rw (← add-one j) (sym f)))

-- the plane on what was told
pub plane-told : (bin : ℕ → Option ℕ) (n : ℕ) (values : List ℕ) {x r v : ℕ} → Told bin n values → x ≡ r → v ≡ plane (packed values n) n x → v ≡ plane bin n r
plane-told bin n values {x} t same e = e ∙ told-plane bin n values t x ∙ ap (plane bin n) same
