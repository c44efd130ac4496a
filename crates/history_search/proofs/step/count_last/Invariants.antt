use mathlib.Core.Path.{◌≡◌}
use Prim.Native.Nat.{◌-◌, ◌^◌, ◌≤◌}
use lib.Bits.{bit_or}
use Rattle.array.specs.Index.{how_many}
use Rattle.array.specs.Bit.{bit}
use Rattle.history_search.proofs.step.count_last.Given as goal

abbrev pub invariant-loop-mask : goal.invariant-loop-mask
invariant-loop-mask l = (l.total ≡ how_many (λ m. bit l.most (bit_or l.bad m)) l.mask) × (l.mask ≤ 2 ^ l.nodes)
