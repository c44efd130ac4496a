use mathlib.Core.Path.{◌≡◌}
use Prim.Native.Nat.{suc, ◌≤◌, ◌<◌}
use lib.ListN.{length}
use Rattle.plan.specs.Limits.{most_nodes, most_cells}
use Rattle.rows.specs.Code.{word_count, word_place}
use Rattle.row_counter.specs.Code.{Put}
use Rattle.row_word.specs.Code.{is_good}
use Rattle.row_vote.proofs.step.hand_to_all.Given as goal

abbrev pub invariant-loop-j : goal.invariant-loop-j
invariant-loop-j l = (l.j ≤ l.nodes) × (l.nodes ≤ most_nodes) × (l.c < most_cells) × (length l.initial.cells ≡ word_count) × Put (λ i. word_place (suc i) l.c) (is_good l.mask) (λ i. l.x) l.j l.initial.cells l.cells
