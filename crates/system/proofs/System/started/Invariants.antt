use mathlib.Core.Path.{◌≡◌}
use Prim.Native.Nat.{◌≤◌}
use Rattle.array.specs.Index.{fill}
use Rattle.system.specs.System.{zero_system}
use Rattle.system.proofs.System.started.Given as goal

abbrev pub invariant-loop-i : goal.invariant-loop-i
invariant-loop-i l = (l.i ≤ l.nodes)
    × (l.system.memories ≡ fill (λ k. l.memory) l.i zero_system.memories)
    × (l.system.good ≡ fill (λ k. l.full) l.i zero_system.good)
    × (l.system.seen ≡ l.initial.system.seen)
