use mathlib.Core.Path.{◌≡◌}
use mathlib.Core.Bool.{true}
use Prim.Native.Nat.{◌-◌, ◌≤◌}
use lib.ListN.{length, take}
use Rattle.plan.specs.Known.{period}
use Rattle.plan.specs.Limits.{most_nodes}
use Rattle.plan.specs.Sizes.{sizes_of}
use Rattle.plan.specs.Accepted.{accepted}
use Rattle.faults.specs.Code.{Held}
use Rattle.run_line.specs.Listing.{most_run_lines}
use Rattle.run.specs.Followed.{Reached}
use Rattle.run.proofs.follow.Given as goal

abbrev pub invariant-loop-input : goal.invariant-loop-input
invariant-loop-input g l = (accepted l.run.plan ≡ true) × (l.run.period ≡ period l.run.plan) × (l.run.frame ≤ most_run_lines) × (l.run.plan ≡ l.initial.run.plan) × (length l.input ≡ 42112) × (length l.out ≡ 23181)
    × (length l.held ≡ most_nodes) × (length l.faults ≡ 14896) × Held (sizes_of l.run.plan) l.held (take (l.bytes - 0) l.faults) × Reached l.initial.run l.run

abbrev pub decreases-loop-input : goal.decreases-loop-input
decreases-loop-input g l = most_run_lines - l.run.frame
