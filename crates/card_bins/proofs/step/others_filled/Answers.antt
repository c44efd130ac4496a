-- `card_bins::step::others_filled` meets its contract: the first j pass the test.
use mathlib.Core.Path.{sym, ap}
use mathlib.Core.Bool.{true, not, ◌||◌}
use Prim.Native.Nat.{◌-◌}
use native.Mathlib.Omega.{arith}
use lib.Dec.{eqb}
use Rattle.array.proofs.TestLaws.{refused-test, passed-test}
use Rattle.array.proofs.IndexLaws.{all_below-none, all_below-more, all_below-fails}
use Rattle.array.proofs.LoopLaws.{all-passed}
use Rattle.memory.proofs.StepLaws.{bin-ends}
use Rattle.card_bins.specs.Bins.{slot_size, is_filled}
use Rattle.card_bins.proofs.step.others_filled.Goals as goal

pub loop-j-init : goal.loop-j-init
loop-j-init c = (omega arith, all_below-none _)

pub is_filled-requires : goal.is_filled-requires
is_filled-requires c = (omega (arith, c.requires.0), c.requires.1, omega (arith, bin-ends c.loop-j.j (slot_size c.args.cells) c.loop-j-test.true c.requires.2))

pub returns-then-not-j-number : goal.returns-then-not-j-number
returns-then-not-j-number c =
    sym
    (all_below-fails (λ i. eqb i c.args.number || is_filled c.args.cells c.args.bins.now i) _ c.loop-j.j c.loop-j-test.true
    (refused-test (ap (λ b. eqb c.loop-j.j c.args.number || b) c.is_filled.ensures) (ap not c.if-not-j-number.true)))

pub loop-j-preserved : goal.loop-j-preserved
loop-j-preserved c = (
  omega arith,
  all_below-more _ c.loop-j.j c.loop-j.invariant.1 (passed-test (ap (λ b. eqb c.loop-j.j c.args.number || b) c.is_filled.ensures) (ap not c.if-not-j-number.false)),
)

pub returns : goal.returns
returns c = sym (all-passed _ c.loop-j.invariant.1 (omega (arith, c.loop-j.invariant.0)))
