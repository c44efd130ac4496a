use mathlib.Core.Path.{◌≡◌}
use Prim.Native.Nat.{◌-◌}
use Rattle.history_masks.specs.Code.{bad_in}
use Rattle.history_masks.proofs.step.bad_in.Given as goal

abbrev pub invariant-loop-k : goal.invariant-loop-k
invariant-loop-k l = bad_in (l.period - l.k) l.masks l.rest ≡ bad_in l.period 0 l.past
