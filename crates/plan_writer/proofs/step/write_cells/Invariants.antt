use mathlib.Core.Path.{◌≡◌}
use mathlib.Core.List.{[], ◌∷◌}
use Prim.Native.Nat.{◌*◌, ◌≤◌}
use lib.ListN.{get_or}
use Rattle.plan_grammar.specs.Line.{line_size}
use Rattle.array.specs.Code.{placed}
use Rattle.plan_writer.proofs.WriterLaws.{rows_of}
use Rattle.plan_writer.proofs.step.write_cells.Given as goal

abbrev pub invariant-loop-c : goal.invariant-loop-c
invariant-loop-c l = (l.c ≤ l.cells) × (l.out ≡ placed l.initial.out (line_size * l.from) (rows_of (λ k. 1 ∷ k ∷ 0 ∷ 0 ∷ get_or l.initial' k 0 ∷ 0 ∷ []) l.c))
