-- `plan::step::is_voted` meets its contract.
use mathlib.Core.Path.{ap}
use mathlib.Core.Bool.{false}
use Prim.Native.Nat.{ℕ}
use lib.ListN.{get_or}
use Rattle.plan.proofs.step.is_voted.Goals as goal

pub returns : goal.returns
returns c = ap (λ (i : ℕ). get_or c.args.voted.now i false) c.vote_place.ensures
