-- `plan_words::step::frame_votes` meets its contract: the first c votes of the frame are stored.
use mathlib.Core.Path.{◌≡◌}
use mathlib.Core.Bool.{Bool}
use mathlib.Core.List.{List}
use Prim.Native.Nat.{ℕ, ◌*◌, ◌≤◌, ◌<◌}
use Rattle.array.specs.Index.{fill}
use Rattle.array.specs.Bit.{bit}
use Rattle.plan.specs.Limits.{most_cells}
use Rattle.plan.specs.Tables.{vote_place}
use Rattle.plan_words.proofs.step.frame_votes.Given as goal

abbrev pub invariant-loop-k : goal.invariant-loop-k
invariant-loop-k l = (4 * l.k ≤ most_cells) × (l.first ≡ most_cells * l.frame) × ((q : ℕ → Bool) (v : List Bool) → l.initial.voted ≡ fill q (vote_place l.frame 0) v → ((x : ℕ) → x < most_cells → q (vote_place l.frame x) ≡ bit l.word x) → l.voted ≡ fill q (vote_place l.frame (4 * l.k)) v)
