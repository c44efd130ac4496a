-- `plan_writer::step::write_actuators` meets its contract: the loop has written the lines of the first i actuators.
use mathlib.Core.Path.{◌≡◌, ap, ◌∙◌}
use mathlib.Core.List.{[], ◌∷◌}
use Prim.Native.Nat.{ℕ, ◌*◌}
use native.Mathlib.Omega.{arith}
use lib.ListN.{get_or}
use borrow.Author.Rules.{rules}
use Rattle.plan_grammar.specs.Line.{line_size}
use Rattle.array.specs.Code.{placed}
use Rattle.plan_writer.proofs.WriterLaws.{rows_of, lines_none, lines-size, lines_more}
use Rattle.plan_writer.proofs.step.write_actuators.Goals as goal

pub loop-i-init : goal.loop-i-init
loop-i-init c = (search rules, lines_none c.args.out.now c.args.from (λ k. 30 ∷ k ∷ get_or c.args.table.now k 0 ∷ 0 ∷ 0 ∷ 0 ∷ []))

pub write_line-requires : goal.write_line-requires
write_line-requires c =
    let loop = c.loop-i in
    (omega (arith, lines-size c.args.out.now c.args.from (λ k. 30 ∷ k ∷ get_or c.args.table.now k 0 ∷ 0 ∷ 0 ∷ 0 ∷ []) loop.i loop.out loop.invariant.1 (omega (arith, c.requires))), omega (arith, c.requires))

pub loop-i-preserved : goal.loop-i-preserved
loop-i-preserved c =
    let loop = c.loop-i in
    (search rules, lines_more _ _ (λ k. 30 ∷ k ∷ get_or c.args.table.now k 0 ∷ 0 ∷ 0 ∷ 0 ∷ []) loop.i loop.out loop.invariant.1 _ _ (omega (arith, c.requires)) c.numbers.ensures c.write_line.ensures)

pub shape_of-out : goal.shape_of-out
shape_of-out c =
    lines-size c.args.out.now c.args.from (λ k. 30 ∷ k ∷ get_or c.args.table.now k 0 ∷ 0 ∷ 0 ∷ 0 ∷ []) c.loop-i.i c.loop-i.out c.loop-i.invariant.1 (omega (arith, c.requires))

pub returns : goal.returns
returns c =
    let e : c.loop-i.i ≡ c.args.count = omega arith in c.loop-i.invariant.1 ∙ ap (λ (n : ℕ). placed c.args.out.now (line_size * c.args.from) (rows_of (λ k. 30 ∷ k ∷ get_or c.args.table.now k 0 ∷ 0 ∷ 0 ∷ 0 ∷ []) n)) e
