use mathlib.Core.Path.{◌≡◌}
use Prim.Native.Nat.{◌*◌, ◌≤◌}
use Rattle.plan.specs.Tables.{task_at}
use Rattle.plan_grammar.specs.Line.{line_size}
use Rattle.array.specs.Code.{placed}
use Rattle.plan_grammar.specs.Written.{task_line}
use Rattle.plan_writer.proofs.WriterLaws.{rows_of}
use Rattle.plan_writer.proofs.step.write_tasks.Given as goal

abbrev pub invariant-loop-k : goal.invariant-loop-k
invariant-loop-k l = (l.k ≤ l.count) × (l.out ≡ placed l.initial.out (line_size * l.from) (rows_of (λ j. task_line (task_at l.plan j)) l.k))
