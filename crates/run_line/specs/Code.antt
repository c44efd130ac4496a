-- The code's own: what is read of a run line. No definition of document 01 cites this.
use Rattle.std.specs.Prelude.{List, ◌∷◌, ℕ, Option, option_map}
use Rattle.run_line.specs.declared.step.LineHead.{LineHead}

-- the numbers of a line, from its head, if it was read, and its patterns
abbrev pub line_read : Option LineHead → List ℕ → Option (List ℕ)
line_read head patterns = option_map (λ h. h.mask ∷ h.fill ∷ patterns) head
