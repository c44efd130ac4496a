use Rattle.std.specs.Prelude.{unwrap_or}
use mathlib.Core.Path.{◌≡◌}
use Prim.Native.Nat.{suc, ◌≤◌, ◌<◌}
use lib.ListN.{length, get_or}
use Rattle.array.specs.Index.{lesser, least}
use Rattle.plan.specs.Limits.{most_nodes, most_cells}
use Rattle.ballot.specs.Majority.{majority, agreement}
use Rattle.rows.specs.Code.{word_count, word_place}
use Rattle.row_counter.specs.Code.{Put}
use Rattle.row_vote.specs.Code.{takes}
use Rattle.row_word.specs.Code.{heard_word}
use Rattle.row_vote.proofs.step.cell_each.Given as goal

abbrev pub invariant-loop-i : goal.invariant-loop-i
invariant-loop-i l = (l.i ≤ l.nodes) × (l.nodes ≤ most_nodes) × (l.c < most_cells) × (length l.initial.cells ≡ word_count)
    × Put (λ k. word_place (suc k) l.c) (takes l.voted l.faults.mask (λ k. get_or l.frames k 0) l.c)
    (λ k. unwrap_or (majority (heard_word l.faults.sizes l.faults.mask l.faults.bytes.now (λ j. get_or l.words j 0) (suc l.c) k) l.nodes) (get_or l.initial.cells (word_place (suc k) l.c) 0)) l.i l.initial.cells l.cells
    × (l.agreed ≡ lesser l.low (least (takes l.voted l.faults.mask (λ k. get_or l.frames k 0) l.c) (λ k. agreement (heard_word l.faults.sizes l.faults.mask l.faults.bytes.now (λ j. get_or l.words j 0) (suc l.c) k) l.nodes) l.i))
