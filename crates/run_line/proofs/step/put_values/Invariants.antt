use mathlib.Core.Path.{◌≡◌}
use Prim.Native.Nat.{◌≤◌}
use lib.ListN.{get_or}
use Rattle.array.specs.Code.{placed}
use Rattle.run_line.specs.Line.{plane_values_at}
use Rattle.run_line.proofs.WritingLaws.{plane_columns}
use Rattle.run_line.proofs.step.put_values.Given as goal

abbrev pub invariant-loop-a : goal.invariant-loop-a
invariant-loop-a l = (l.a ≤ l.count) × (l.out ≡ placed l.initial.out plane_values_at (plane_columns (λ k. get_or l.values k 0) l.a))
