use mathlib.Core.Path.{◌≡◌}
use Prim.Native.Nat.{◌+◌, ◌-◌, ◌^◌, ◌≤◌}
use lib.ListN.{length}
use Rattle.array.specs.Code.{placed}
use Rattle.history_masks.specs.Code.{last_bytes}
use Rattle.history_search.proofs.step.put_last.Given as goal

abbrev pub invariant-loop-mask : goal.invariant-loop-mask
invariant-loop-mask l = (l.out ≡ placed l.initial.out l.at (last_bytes l.most l.bad l.past l.frames l.mask)) × (l.end ≡ l.at + length (last_bytes l.most l.bad l.past l.frames l.mask)) × (l.mask ≤ 2 ^ l.nodes) × (length l.out ≡ length l.initial.out)
