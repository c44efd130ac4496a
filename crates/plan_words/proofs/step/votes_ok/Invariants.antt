-- `plan_words::step::votes_ok` meets its contract: the words of the first g frames have no bit past the cells.
use mathlib.Core.Path.{◌≡◌}
use mathlib.Core.Bool.{true}
use Prim.Native.Nat.{◌≤◌}
use Rattle.array.specs.Index.{all_below}
use Rattle.plan.specs.Limits.{most_frames}
use Rattle.plan_words.specs.Words.{vote_words}
use Rattle.plan_words.proofs.step.votes_ok.Given as goal

abbrev pub invariant-loop-g : goal.invariant-loop-g
invariant-loop-g l = (l.g ≤ most_frames) × (all_below (vote_words l.words) l.g ≡ true)
