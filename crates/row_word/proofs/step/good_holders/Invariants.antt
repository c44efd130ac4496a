use mathlib.Core.Path.{◌≡◌}
use Prim.Native.Nat.{◌≤◌}
use lib.ListN.{get_or}
use Rattle.ballot.specs.Majority.{holders}
use Rattle.row_word.specs.Code.{good_only}
use Rattle.row_word.proofs.step.good_holders.Given as goal

abbrev pub invariant-loop-j : goal.invariant-loop-j
invariant-loop-j l = (l.j ≤ l.nodes) × (l.held ≤ l.j) × (l.held ≡ holders (good_only l.mask (λ k. get_or l.words k 0)) l.j l.x)
