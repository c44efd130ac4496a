use mathlib.Core.Path.{◌≡◌}
use Prim.Native.Nat.{◌≤◌}
use Rattle.array.specs.Index.{fill}
use Rattle.plan.specs.Limits.{most_nodes}
use Rattle.system_words.specs.Words.{memory_at, node_at, good_in}
use Rattle.system_words.proofs.step.system.Given as goal

abbrev pub invariant-loop-j : goal.invariant-loop-j
invariant-loop-j l = (l.j ≤ most_nodes) × (l.memories ≡ fill (λ i. memory_at l.words (node_at i)) l.j l.initial.memories) × (l.good ≡ fill (good_in l.words) l.j l.initial.good)
