use mathlib.Core.Path.{◌≡◌}
use Prim.Native.Nat.{◌≤◌}
use Rattle.plan.specs.Limits.{most_nodes}
use Rattle.system.specs.Frame.{good_of}
use Rattle.system_words.specs.Words.{stored_from, good_at}
use Rattle.system_words.proofs.step.put_system.Given as goal

abbrev pub invariant-loop-j : goal.invariant-loop-j
invariant-loop-j l = (l.j ≤ l.nodes) × (l.nodes ≤ most_nodes) × (l.words ≡ stored_from (good_of l.system) good_at l.j l.initial.words)
