use mathlib.Core.Path.{◌≡◌}
use Prim.Native.Nat.{◌≤◌}
use lib.ListN.{get_or}
use Rattle.plan.specs.Limits.{most_actuators}
use Rattle.system_words.specs.Words.{stored_from, handed_at}
use Rattle.system_words.proofs.step.put_seen.Given as goal

abbrev pub invariant-loop-k : goal.invariant-loop-k
invariant-loop-k l = (l.k ≤ most_actuators) × (l.words ≡ stored_from (λ a. get_or l.seen.handed a 0) handed_at l.k l.initial.words)
