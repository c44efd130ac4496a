-- The code's own: a part written into a buffer. No definition of document 01 cites this.
use Rattle.std.specs.Prelude.{List, ◌++◌, ℕ, ◌+◌, length, take, drop}

-- a buffer with t from a place on
abbrev pub placed : List ℕ → ℕ → List ℕ → List ℕ
placed s at t = take at s ++ (t ++ drop (at + length t) s)
