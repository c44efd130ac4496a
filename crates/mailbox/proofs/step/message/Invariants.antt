use mathlib.Core.Path.{◌≡◌}
use mathlib.Core.List.{◌++◌}
use Prim.Native.Nat.{◌≤◌, ◌<◌}
use lib.ListN.{length, take}
use Rattle.array.specs.Index.{joined}
use Rattle.array.specs.Word.{bytes}
use Rattle.plan.specs.Limits.{most_frames, most_cells}
use Rattle.memory.specs.Size.{counter_size, pattern_size, cell_at}
use Rattle.memory.specs.Node.{sent_cell}
use Rattle.mailbox.proofs.step.message.Given as goal

abbrev pub invariant-loop-c : goal.invariant-loop-c
invariant-loop-c l = (l.plan.cells ≤ most_cells) × (l.g < most_frames) × (length l.out ≡ cell_at l.plan.cells)
    × (take (cell_at l.c) l.out ≡ bytes counter_size l.memory.counter ++ joined (λ d. bytes pattern_size (sent_cell l.plan l.memory d)) l.c)
