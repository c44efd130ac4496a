-- The limits of document 01's header line, and of the tasks: "at most 64".
use Rattle.std.specs.Prelude.{ℕ}

-- 3 before request 2026-04: "Headers with 1 or 2 nodes were refused with 3 and are now accepted"
abbrev pub least_nodes : ℕ
least_nodes = 1

abbrev pub most_nodes : ℕ
most_nodes = 7

abbrev pub most_frames : ℕ
most_frames = 16

abbrev pub most_cells : ℕ
most_cells = 32

abbrev pub most_sensors : ℕ
most_sensors = 16

abbrev pub most_actuators : ℕ
most_actuators = 8

abbrev pub most_tasks : ℕ
most_tasks = 64
