use mathlib.Core.Path.{◌≡◌}
use mathlib.Core.List.{[], ◌∷◌}
use Prim.Native.Nat.{◌*◌, ◌≤◌}
use lib.ListN.{get_or}
use Rattle.plan_grammar.specs.Line.{line_size}
use Rattle.array.specs.Code.{placed}
use Rattle.plan_writer.proofs.WriterLaws.{rows_of}
use Rattle.plan_writer.proofs.step.write_actuators.Given as goal

abbrev pub invariant-loop-i : goal.invariant-loop-i
invariant-loop-i l = (l.i ≤ l.count) × (l.out ≡ placed l.initial.out (line_size * l.from) (rows_of (λ k. 30 ∷ k ∷ get_or l.table k 0 ∷ 0 ∷ 0 ∷ 0 ∷ []) l.i))
