-- `history_masks::step::bad_in` meets its contract: what is left to collect.
use mathlib.Core.Path.{ap}
use Prim.Native.Nat.{ℕ}
use native.Mathlib.Omega.{arith}
use native.Mathlib.Nat.{sub-zero}
use Rattle.history_masks.specs.Code.{bad_in}
use Rattle.history_masks.proofs.CodeLaws.{bad_more, bad-rest, bad-end}
use Rattle.history_masks.proofs.step.bad_in.Goals as goal

pub loop-k-init : goal.loop-k-init
loop-k-init c = ap (λ (n : ℕ). bad_in n 0 c.args.past) (sub-zero c.args.period)

pub returns-then-rest-eq0 : goal.returns-then-rest-eq0
returns-then-rest-eq0 c = bad-rest c.args.period c.args.past c.loop-k.masks c.loop-k.rest c.loop-k.k c.loop-k.invariant c.if-rest-eq0.true

pub loop-k-preserved : goal.loop-k-preserved
loop-k-preserved c = bad_more c.args.period c.args.past c.loop-k.masks c.loop-k.rest c.loop-k.k c.loop-k.invariant (omega arith)

pub returns : goal.returns
returns c = bad-end c.args.period c.args.past c.loop-k.masks c.loop-k.rest c.loop-k.k c.loop-k.invariant (omega arith)
