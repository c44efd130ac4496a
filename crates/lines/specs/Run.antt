-- A run between two lines: the next line's numbers, and the state after its frame.
use Rattle.std.specs.Prelude.{List, ℕ, ◌+◌, take, Option}
use Rattle.plan.specs.Known.{period}
use Rattle.run_line.specs.Line.{run_line_size}
use Rattle.run_line.specs.Listing.{line_numbers, system_next, single_after}
use Rattle.lines.specs.declared.Run.{Run}

-- the state after a frame from the line's numbers l. The period handed in counts for nothing: it is the plan's.
unfoldable pub run_after : Run → List ℕ → Run
run_after r l =
    record {
      plan = r.plan;
      period = period r.plan;
      system = system_next r.plan r.system l;
      single = single_after r.plan r.single l;
      frame = r.frame + 1;
    }

-- the numbers of the next line, if it is not refused: 10
unfoldable pub next_numbers : Run → List ℕ → Option (List ℕ)
next_numbers r rest = line_numbers r.plan r.frame (take (run_line_size r.plan.sensors) rest)
