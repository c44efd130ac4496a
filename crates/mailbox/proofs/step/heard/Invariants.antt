use mathlib.Core.Path.{◌≡◌}
use Prim.Native.Nat.{◌+◌, ◌*◌, ◌≤◌}
use lib.ListN.{length, get_or}
use Rattle.plan.specs.Limits.{most_nodes}
use Rattle.ballot.specs.Code.{Told}
use Rattle.mailbox.specs.Code.{word_from, heard_of}
use Rattle.mailbox.proofs.step.heard.Given as goal

abbrev pub invariant-loop-j : goal.invariant-loop-j
invariant-loop-j l = (l.j ≤ l.nodes) × (length l.all ≡ most_nodes) × Told (heard_of l.mask (λ k. word_from l.bytes l.w (l.at + k * l.apart)) (λ k. get_or l.words k 0)) l.j l.all
