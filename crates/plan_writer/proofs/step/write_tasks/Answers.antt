-- `plan_writer::step::write_tasks` meets its contract: the loop has written the lines of the first k tasks.
use mathlib.Core.Path.{◌≡◌, ap, ◌∙◌}
use Prim.Native.Nat.{ℕ, ◌*◌}
use native.Mathlib.Omega.{arith}
use borrow.Author.Rules.{rules}
use Rattle.plan.specs.Tables.{task_at}
use Rattle.plan_grammar.specs.Line.{line_size}
use Rattle.array.specs.Code.{placed}
use Rattle.plan_grammar.specs.Written.{task_line}
use Rattle.plan_writer.proofs.WriterLaws.{rows_of, lines_none, lines-size, lines_more}
use Rattle.plan_writer.proofs.step.write_tasks.Goals as goal

pub loop-k-init : goal.loop-k-init
loop-k-init c = (search rules, lines_none c.args.out.now c.args.from (λ j. task_line (task_at c.args.plan j)))

pub write_line-requires : goal.write_line-requires
write_line-requires c =
    let loop = c.loop-k in
    (omega (arith, lines-size c.args.out.now c.args.from (λ j. task_line (task_at c.args.plan j)) loop.k loop.out loop.invariant.1 (omega (arith, c.requires))), omega (arith, c.requires))

pub loop-k-preserved : goal.loop-k-preserved
loop-k-preserved c =
    let loop = c.loop-k in
    (search rules, lines_more _ _ (λ j. task_line (task_at c.args.plan j)) loop.k loop.out loop.invariant.1 _ _ (omega (arith, c.requires)) c.task_line.ensures c.write_line.ensures)

pub shape_of-out : goal.shape_of-out
shape_of-out c =
    lines-size c.args.out.now c.args.from (λ j. task_line (task_at c.args.plan j)) c.loop-k.k c.loop-k.out c.loop-k.invariant.1 (omega (arith, c.requires))

pub returns : goal.returns
returns c =
    let e : c.loop-k.k ≡ c.args.count = omega arith in c.loop-k.invariant.1 ∙ ap (λ (n : ℕ). placed c.args.out.now (line_size * c.args.from) (rows_of (λ j. task_line (task_at c.args.plan j)) n)) e
