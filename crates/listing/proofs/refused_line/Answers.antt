-- `listing::refused_line` meets its contract.
use mathlib.Core.Path.{ap}
use Prim.Native.Nat.{ℕ, ◌+◌}
use Rattle.answer.specs.declared.Refusal.TheVariants.{RunLine}
use Rattle.listing.proofs.refused_line.Goals as goal

pub returns : goal.returns
returns c = ap (λ (n : ℕ). RunLine (n + 1)) c.min.ensures
