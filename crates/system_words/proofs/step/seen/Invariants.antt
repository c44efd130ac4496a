use mathlib.Core.Path.{◌≡◌}
use Prim.Native.Nat.{◌+◌, ◌≤◌}
use lib.ListN.{get_or, replicate}
use Rattle.array.specs.Index.{fill}
use Rattle.plan.specs.Limits.{most_actuators}
use Rattle.system_words.specs.Words.{handed_at}
use Rattle.system_words.proofs.step.seen.Given as goal

abbrev pub invariant-loop-a : goal.invariant-loop-a
invariant-loop-a l = (l.a ≤ most_actuators) × (l.handed ≡ fill (λ i. get_or l.words (handed_at + i) 0) l.a (replicate most_actuators 0))
