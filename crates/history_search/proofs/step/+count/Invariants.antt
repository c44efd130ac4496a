use mathlib.Core.Path.{◌≡◌}
use Prim.Native.Nat.{◌-◌, ◌^◌, ◌≤◌}
use lib.ListN.{length}
use Rattle.history_masks.specs.Code.{past_of}
use Rattle.history_masks.proofs.HistoryLaws.{found_below}
use Rattle.history_search.proofs.step.+count.Given as goal

abbrev pub invariant-loop-mask : goal.invariant-loop-mask
invariant-loop-mask l = (l.total ≡ length (found_below l.nodes l.period (past_of l.done l.past) (l.left - 1) l.mask)) × (l.mask ≤ 2 ^ l.nodes)

abbrev pub decreases-count : goal.decreases-count
decreases-count l = l.left
