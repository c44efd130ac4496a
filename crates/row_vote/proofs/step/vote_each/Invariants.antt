use mathlib.Core.Path.{◌≡◌}
use Prim.Native.Nat.{◌≤◌}
use lib.ListN.{length, get_or}
use Rattle.plan.specs.Limits.{most_cells}
use Rattle.rows.specs.Code.{word_count}
use Rattle.row_vote.specs.Code.{columns_least}
use Rattle.row_vote.proofs.VoteLaws.{Voting}
use Rattle.row_vote.proofs.step.vote_each.Given as goal

abbrev pub invariant-loop-c : goal.invariant-loop-c
invariant-loop-c l = (l.c ≤ l.count) × (l.count ≤ most_cells) × (length l.cells ≡ word_count) × Voting l.voted l.faults.sizes l.faults.mask l.faults.bytes.now (λ j. get_or l.sent j 0) (λ i. get_or l.frames i 0) l.initial.cells l.c l.cells
    × (l.agreed ≡ columns_least l.voted l.faults.sizes l.faults.mask l.faults.bytes.now (λ j. get_or l.sent j 0) (λ i. get_or l.frames i 0) l.initial.cells l.low l.c)
