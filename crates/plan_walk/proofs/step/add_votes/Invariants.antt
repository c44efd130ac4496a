use mathlib.Core.Path.{◌≡◌}
use Prim.Native.Nat.{◌≤◌}
use Rattle.array.specs.Index.{fill}
use Rattle.plan_walk.proofs.WalkLaws.{voted_word}
use Rattle.plan_walk.proofs.step.add_votes.Given as goal

abbrev pub invariant-loop-c : goal.invariant-loop-c
invariant-loop-c l = (l.c ≤ l.cells) × (l.words ≡ fill (voted_word l.voted l.frame l.begun l.initial.words) l.c l.initial.words)
