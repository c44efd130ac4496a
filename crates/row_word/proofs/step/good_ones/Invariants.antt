use mathlib.Core.Path.{◌≡◌}
use Prim.Native.Nat.{◌≤◌}
use lib.ListN.{length, get_or}
use Rattle.plan.specs.Limits.{most_nodes}
use Rattle.ballot.proofs.PackedLaws.{Packed}
use Rattle.row_word.specs.Code.{good_only}
use Rattle.row_word.proofs.step.good_ones.Given as goal

abbrev pub invariant-loop-j : goal.invariant-loop-j
invariant-loop-j l = (l.j ≤ l.nodes) × (l.k ≤ l.j) × (length l.good ≡ most_nodes) × Packed (good_only l.mask (λ i. get_or l.words i 0)) l.good l.k l.j
