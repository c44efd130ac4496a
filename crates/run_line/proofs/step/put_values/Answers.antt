-- `run_line::step::put_values` meets its contract: the loop has written the first a plane values.
use mathlib.Core.Path.{◌≡◌, ap, ◌∙◌}
use Prim.Native.Nat.{ℕ}
use native.Mathlib.Omega.{arith}
use lib.ListN.{get_or, length-set}
use borrow.Author.Rules.{rules}
use Rattle.array.specs.Code.{placed}
use Rattle.run_line.specs.Line.{plane_values_at}
use Rattle.run_line.proofs.WritingLaws.{plane_columns, columns-none, columns-size, columns-more, columns-ended}
use Rattle.run_line.proofs.step.put_values.Goals as goal

pub loop-a-init : goal.loop-a-init
loop-a-init c = (search rules, columns-none (λ k. get_or c.args.values.now k 0) c.args.out.now)

pub put-requires : goal.put-requires
put-requires c =
    let v : ℕ → ℕ = λ k. get_or c.args.values.now k 0 in
    (omega (arith, columns-size v c.args.out.now c.loop-a.out c.loop-a.a c.loop-a.invariant.1 (omega (arith, c.requires)), c.requires), omega arith, omega (arith, c.requires))

pub loop-a-preserved : goal.loop-a-preserved
loop-a-preserved c =
    let v : ℕ → ℕ = λ k. get_or c.args.values.now k 0 in
    (search rules, columns-more v c.args.out.now c.loop-a.out c.loop-a.a c.loop-a.invariant.1 (omega (arith, c.requires)) c.put.ensures)

pub put-requires-2 : goal.put-requires-2
put-requires-2 c =
    let v : ℕ → ℕ = λ k. get_or c.args.values.now k 0 in
    (omega (arith, columns-size v c.args.out.now c.loop-a.out c.loop-a.a c.loop-a.invariant.1 (omega (arith, c.requires)), c.requires), omega arith, omega (arith, c.requires))

-- what is written leaves the length
pub bounds-out-at : goal.bounds-out-at
bounds-out-at c =
    let v : ℕ → ℕ = λ k. get_or c.args.values.now k 0 in
    omega (arith, c.put-2.auto.out, columns-size v c.args.out.now c.loop-a.out c.loop-a.a c.loop-a.invariant.1 (omega (arith, c.requires)), c.requires)

pub shape_of-out : goal.shape_of-out
shape_of-out c =
    let v : ℕ → ℕ = λ k. get_or c.args.values.now k 0 in
    length-set c.put-2.new.out _ _ ∙ c.put-2.auto.out ∙ columns-size v c.args.out.now c.loop-a.out c.loop-a.a c.loop-a.invariant.1 (omega (arith, c.requires))

pub returns : goal.returns
returns c =
    let v : ℕ → ℕ = λ k. get_or c.args.values.now k 0 in
    let e : c.loop-a.a ≡ c.args.count = omega arith in
    columns-ended v c.args.out.now c.loop-a.out c.args.count (c.loop-a.invariant.1 ∙ ap (λ (n : ℕ). placed c.args.out.now plane_values_at (plane_columns v n)) e) c.args.agreement c.put-2.ensures c.requires.1
