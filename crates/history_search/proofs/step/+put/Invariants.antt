use mathlib.Core.Path.{◌≡◌}
use Prim.Native.Nat.{◌+◌, ◌-◌, ◌^◌, ◌≤◌}
use lib.ListN.{length}
use Rattle.array.specs.Code.{placed}
use Rattle.history_masks.proofs.CodeLaws.{bytes_found}
use Rattle.history_search.proofs.step.+put.Given as goal

abbrev pub invariant-loop-mask : goal.invariant-loop-mask
invariant-loop-mask l = (l.out ≡ placed l.initial.out l.at (bytes_found l.nodes l.period l.done l.past (l.left - 1) l.mask)) × (l.end ≡ l.at + length (bytes_found l.nodes l.period l.done l.past (l.left - 1) l.mask)) × (l.mask ≤ 2 ^ l.nodes)

abbrev pub decreases-put : goal.decreases-put
decreases-put l = l.left
