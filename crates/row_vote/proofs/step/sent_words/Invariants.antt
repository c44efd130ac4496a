use Rattle.std.specs.Prelude.{Some}
use mathlib.Core.Path.{◌≡◌}
use Prim.Native.Nat.{◌≤◌, ◌<◌}
use lib.ListN.{length, get_or}
use Rattle.plan.specs.Limits.{most_nodes, most_cells}
use Rattle.ballot.specs.Code.{Told}
use Rattle.rows.specs.Code.{word_count}
use Rattle.row_vote.specs.Code.{sent_word}
use Rattle.row_vote.proofs.step.sent_words.Given as goal

abbrev pub invariant-loop-j : goal.invariant-loop-j
invariant-loop-j l = (l.j ≤ l.nodes) × (l.nodes ≤ most_nodes) × (l.c < most_cells) × (length l.cells ≡ word_count) × (length l.words ≡ most_nodes)
    × Told (λ i. Some (sent_word l.voted (λ k. get_or l.sent k 0) l.cells l.c i)) l.j l.words
