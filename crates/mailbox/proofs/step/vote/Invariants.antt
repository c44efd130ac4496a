use mathlib.Core.Path.{◌≡◌}
use Prim.Native.Nat.{◌*◌, ◌≤◌, ◌<◌}
use lib.ListN.{length}
use Rattle.array.specs.Index.{fill}
use Rattle.plan.specs.Limits.{most_nodes, most_frames, most_cells}
use Rattle.memory.specs.Size.{bin_bytes}
use Rattle.memory.proofs.StepLaws.{cell_after, agreed_to}
use Rattle.mailbox.proofs.step.vote.Given as goal

abbrev pub invariant-loop-c : goal.invariant-loop-c
invariant-loop-c l = (l.width ≡ l.plan.cells) × (l.width ≤ most_cells) × (l.frame < most_frames) × (l.nodes ≤ most_nodes) × (length l.mailbox ≡ l.nodes * bin_bytes l.width)
    × (l.cells ≡ fill (cell_after l.plan l.initial.cells l.mailbox l.frame) l.c l.initial.cells)
    × (l.agreement ≡ agreed_to l.plan l.mailbox l.frame l.initial.agreement l.c)
