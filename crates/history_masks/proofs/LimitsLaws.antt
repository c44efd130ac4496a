-- What the limits say.
use mathlib.Core.Path.{◌≡◌}
use mathlib.Core.Bool.{true, ◌&&◌}
use Prim.Native.Nat.{ℕ, ◌≤◌}
use lib.Dec.{leb}
use borrow.Author.Tests.{leb-true}
use Rattle.array.proofs.TestLaws.{and_left, and_right}
use Rattle.history_masks.specs.Limits.{most_history_nodes, most_history_frames, limits_ok}

module _ (nodes k : ℕ) (e : limits_ok nodes k ≡ true) where
  pub few-nodes : nodes ≤ most_history_nodes
  unfolding limits_ok
  few-nodes = leb-true nodes most_history_nodes (and_left _ _ (and_left _ (leb k most_history_frames) e))

  pub some-frames : 1 ≤ k
  unfolding limits_ok
  some-frames = leb-true 1 k (and_right (leb nodes most_history_nodes) _ (and_left _ (leb k most_history_frames) e))

  pub few-frames : k ≤ most_history_frames
  unfolding limits_ok
  few-frames = leb-true k most_history_frames (and_right (leb nodes most_history_nodes && leb 1 k) _ e)
