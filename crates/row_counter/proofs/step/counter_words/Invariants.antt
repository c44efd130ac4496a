use Rattle.std.specs.Prelude.{Some}
use mathlib.Core.Path.{◌≡◌}
use Prim.Native.Nat.{suc, ◌≤◌}
use lib.ListN.{length, get_or}
use Rattle.plan.specs.Limits.{most_nodes}
use Rattle.ballot.specs.Code.{Told}
use Rattle.row_counter.proofs.step.counter_words.Given as goal

abbrev pub invariant-loop-j : goal.invariant-loop-j
invariant-loop-j l = (l.j ≤ l.nodes) × (length l.words ≡ most_nodes) × Told (λ i. Some (get_or l.counters (suc i) 0)) l.j l.words
