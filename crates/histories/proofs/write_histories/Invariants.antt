use mathlib.Core.Path.{◌≡◌}
use Prim.Native.Nat.{◌≤◌}
use lib.ListN.{length}
use Rattle.array.specs.Index.{joined}
use Rattle.array.specs.Code.{placed}
use Rattle.histories.proofs.ListingLaws.{history_line_at}
use Rattle.histories.proofs.write_histories.Given as goal

abbrev pub invariant-loop-k : goal.invariant-loop-k
invariant-loop-k l = (l.out ≡ placed l.initial.out 0 (joined (history_line_at l.masks) l.k)) × (l.k ≤ l.count) × (length l.out ≡ length l.initial.out)
