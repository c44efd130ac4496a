use mathlib.Core.Path.{◌≡◌}
use Prim.Native.Nat.{◌+◌, ◌≤◌}
use lib.ListN.{get_or}
use Rattle.array.specs.Index.{fill}
use Rattle.card.specs.Card.{most_bins}
use Rattle.card_words.proofs.step.copy_bins.Given as goal

abbrev pub invariant-loop-k : goal.invariant-loop-k
invariant-loop-k l = (l.k ≤ most_bins) × (l.bins ≡ fill (λ i. get_or l.bytes (0 + i) 0) l.k l.initial.bins)
