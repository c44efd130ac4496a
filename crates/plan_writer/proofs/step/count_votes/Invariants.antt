use mathlib.Core.Path.{◌≡◌}
use mathlib.Core.Bool.{false}
use Prim.Native.Nat.{◌≤◌}
use lib.ListN.{get_or}
use Rattle.array.specs.Index.{how_many}
use Rattle.plan_writer.proofs.step.count_votes.Given as goal

abbrev pub invariant-loop-e : goal.invariant-loop-e
invariant-loop-e l = (l.e ≤ 512) × (l.count ≡ how_many (λ k. get_or l.voted k false) l.e) × (l.count ≤ l.e)
