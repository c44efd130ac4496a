-- `plan_words::step::votes_in` meets its contract: the votes of the first g frames are stored.
use mathlib.Core.Path.{◌≡◌}
use mathlib.Core.Bool.{false}
use Prim.Native.Nat.{ℕ, ◌*◌, ◌/◌, ◌%◌, ◌≤◌, ◌<◌}
use lib.ListN.{get_or}
use Rattle.array.specs.Index.{fill}
use Rattle.array.specs.Bit.{bit}
use Rattle.plan.specs.Limits.{most_frames, most_cells}
use Rattle.plan_words.proofs.WordsReadLaws.{votes_in}
use Rattle.plan_words.proofs.step.votes_in.Given as goal

abbrev pub invariant-loop-g : goal.invariant-loop-g
invariant-loop-g l = (l.g ≤ most_frames) × ((i : ℕ) → i < 64 → get_or l.table i false ≡ bit (i / 4) (i % 4)) × (l.voted ≡ fill (votes_in l.words) (most_cells * l.g) l.initial.voted)
