-- The numbers of a plan, as one value that travels without its tables.
use Rattle.std.specs.Prelude.{ℕ}
use Rattle.plan.specs.declared.Plan.{Plan}
use Rattle.plan.specs.declared.Sizes.{Sizes}
use Rattle.plan.specs.Known.{period}

-- a plan's own numbers, beside this one for its period
abbrev pub sizes_with : Plan → ℕ → Sizes
sizes_with p r =
    record {
      nodes = p.nodes;
      frames = p.frames;
      cells = p.cells;
      sensors = p.sensors;
      actuators = p.actuators;
      period = r;
    }

-- whose numbers they are: `s ≡ sizes_of p`
abbrev pub sizes_of : Plan → Sizes
sizes_of p = sizes_with p (period p)
