use mathlib.Core.Path.{◌≡◌}
use Prim.Native.Nat.{◌≤◌}
use Rattle.plan.specs.Limits.{most_nodes}
use Rattle.system_words.specs.Words.{with_memories}
use Rattle.system_words.proofs.step.put_memories.Given as goal

abbrev pub invariant-loop-j : goal.invariant-loop-j
invariant-loop-j l = (l.j ≤ l.nodes) × (l.nodes ≤ most_nodes) × (l.words ≡ with_memories l.system l.j l.initial.words)
