-- `faults::step::message_at` meets its contract.
use Prim.Native.Nat.{◌≤◌}
use native.Mathlib.Omega.{arith}
use borrow.Author.Rules.{rules}
use Rattle.plan.specs.Limits.{most_nodes}
use Rattle.faults.proofs.LayoutLaws.{at_most, bins-most}
use Rattle.faults.proofs.step.message_at.Goals as goal

-- the parts of both nodes, and the bins before both, are small
pub overflow_add-result : goal.overflow_add-result
overflow_add-result c = omega (arith, at_most c.args.s c.requires.0 c.args.sender (omega (arith, c.requires.1)), at_most c.args.s c.requires.0 c.args.receiver (omega (arith, c.requires.2)), c.requires.0.cells)

pub overflow_add-result-2 : goal.overflow_add-result-2
overflow_add-result-2 c = let s = c.args.s in
    let h = c.requires.0 in
    let k : c.args.sender ≤ most_nodes = omega (arith, c.requires.1) in
    let l : c.args.receiver ≤ most_nodes = omega (arith, c.requires.2) in
    omega (arith, at_most s h c.args.sender k, at_most s h c.args.receiver l, bins-most s h c.args.sender k, bins-most s h c.args.receiver l, h.cells)

pub returns : goal.returns
returns c = search rules
