-- Request 2026-04: "plans accepted before keep every answer". The tests of `Accepted` with any least number of nodes in place of `least_nodes`: with document 01's
-- own, 3, they are those before the request. No contract cites these; the laws are in EarlierLaws.
use Rattle.std.specs.Prelude.{Bool, not, ◌&&◌, ℕ, eqb, leb}
use Rattle.plan.specs.declared.Plan.{Plan}
use Rattle.plan.specs.Limits.{most_nodes, most_frames, most_cells, most_sensors, most_actuators, most_tasks}
use Rattle.plan.specs.Known.{period}
use Rattle.plan.specs.Accepted.{within, entries_ok, storable}

-- document 01: "nodes n, 3–7"
abbrev pub least_before : ℕ
least_before = 3

module _ (least : ℕ) where
  unfoldable pub header_from : ℕ → ℕ → ℕ → ℕ → ℕ → ℕ → Bool
  header_from nodes frames cells sensors actuators tasks =
      within least most_nodes nodes && within 1 most_frames frames && within 1 most_cells cells && within 1 most_sensors sensors
      && within 1 most_actuators actuators && leb tasks most_tasks

  unfoldable pub well_formed_from : Plan → Bool
  well_formed_from p =
      storable p
      && (header_from p.nodes p.frames p.cells p.sensors p.actuators p.task_count && entries_ok p)

  unfoldable pub accepted_from : Plan → Bool
  accepted_from p = well_formed_from p && not (eqb (period p) 0)
