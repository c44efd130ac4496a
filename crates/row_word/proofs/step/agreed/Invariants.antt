use mathlib.Core.Path.{◌≡◌}
use Prim.Native.Nat.{◌≤◌}
use lib.ListN.{get_or}
use Rattle.array.specs.Index.{lesser, least}
use Rattle.ballot.specs.Majority.{holders}
use Rattle.row_word.specs.Code.{is_good, heard_word}
use Rattle.row_word.proofs.step.agreed.Given as goal

abbrev pub invariant-loop-i : goal.invariant-loop-i
invariant-loop-i l = (l.i ≤ l.nodes) × (l.agreed ≡ lesser l.low (least (is_good l.faults.mask) (λ k. holders (heard_word l.faults.sizes l.faults.mask l.faults.bytes.now (λ j. get_or l.words j 0) l.w k) l.nodes l.x) l.i))
