-- Of which presses, and for how many frames, histories are listed.
use Rattle.std.specs.Prelude.{Bool, ◌&&◌, ℕ, leb}

-- "at most 5 nodes and a length of 1 to 4 frames"
abbrev pub most_history_nodes : ℕ
most_history_nodes = 5

abbrev pub most_history_frames : ℕ
most_history_frames = 4

unfoldable pub limits_ok : ℕ → ℕ → Bool
limits_ok nodes k = leb nodes most_history_nodes && leb 1 k && leb k most_history_frames
