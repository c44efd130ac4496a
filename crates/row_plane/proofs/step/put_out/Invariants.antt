use mathlib.Core.Path.{◌≡◌}
use Prim.Native.Nat.{◌≤◌}
use lib.ListN.{length}
use Rattle.plan.specs.Limits.{most_nodes}
use Rattle.ballot.specs.Code.{Told}
use Rattle.row_plane.specs.Code.{put_from}
use Rattle.row_plane.proofs.step.put_out.Given as goal

abbrev pub invariant-loop-j : goal.invariant-loop-j
invariant-loop-j l = (l.j ≤ l.nodes) × (l.nodes ≤ most_nodes) × (length l.values ≡ most_nodes) × Told (put_from l.faults.sizes l.faults.mask l.faults.bytes.now l.cells l.cell l.a) l.j l.values
