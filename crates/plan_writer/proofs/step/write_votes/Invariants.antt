use mathlib.Core.Path.{◌≡◌}
use mathlib.Core.Bool.{false}
use Prim.Native.Nat.{◌+◌, ◌*◌, ◌≤◌}
use lib.ListN.{get_or}
use Rattle.array.specs.Index.{how_many}
use Rattle.plan_grammar.specs.Line.{line_size}
use Rattle.array.specs.Code.{placed}
use Rattle.plan_writer.proofs.WriterLaws.{vote_rows}
use Rattle.plan_writer.proofs.step.write_votes.Given as goal

abbrev pub invariant-loop-e : goal.invariant-loop-e
invariant-loop-e l = (l.e ≤ 512) × (l.i ≡ l.from + how_many (λ k. get_or l.voted k false) l.e) × (l.out ≡ placed l.initial.out (line_size * l.from) (vote_rows l.voted l.e))
