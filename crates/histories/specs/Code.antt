-- The code's own: the sizes of the program's buffers. No definition of what is printed cites these.
use Rattle.std.specs.Prelude.{ℕ}

-- more histories of three frames than any plan has
abbrev pub most_histories : ℕ
most_histories = 4096

-- a line with its line feed
abbrev pub history_line_size : ℕ
history_line_size = 13
