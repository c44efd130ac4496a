-- `plan_writer::step::write` meets its contract: the parts of the text lie one behind the other.
use mathlib.Core.Path.{refl}
use mathlib.Core.List.{◌++◌}
use mathlib.Core.Bool.{false}
use Prim.Native.Nat.{◌+◌, ◌*◌}
use native.Mathlib.Omega.{arith}
use lib.ListN.{get_or}
use borrow.Author.Rules.{rules}
use Rattle.array.specs.Index.{how_many}
use Rattle.array.proofs.IndexLaws.{how_many-bound}
use Rattle.plan.proofs.AcceptedLaws.{shape-of-accepted}
use Rattle.plan_grammar.specs.Line.{line_size}
use Rattle.plan_grammar.specs.Written.{header_line}
use Rattle.plan_grammar.proofs.WrittenLaws.{rows-length, vote_rows-length, text-length}
use Rattle.column.proofs.BufferLaws.{Laid, laid-length}
use Rattle.plan_writer.proofs.WriterLaws.{laid-lines, header_text, cells_text, tasks_text, votes_text, actuators_text, header-laid, text-laid}
use Rattle.plan_writer.proofs.step.write.Goals as goal

pub write_line-requires : goal.write_line-requires
write_line-requires c =
    (omega (arith, text-length c.args.plan, c.requires.1), search rules)

pub write_cells-requires : goal.write_cells-requires
unfolding header_line
write_cells-requires c =
    let p = c.args.plan in
    let room = text-length p in
    let lines1 : Laid c.args.out.now 0 (line_size * 1) (header_text c.args.plan) c.write_line.new.out = header-laid c.args.plan c.args.out.now _ _ c.numbers.ensures c.write_line.ensures in
    let h = shape-of-accepted p c.requires.0 in
    (h.cells-le, omega (arith, c.requires.1, laid-length lines1 (omega (arith, c.requires.1))), omega (arith, h.cells-le))

pub overflow_add-cells : goal.overflow_add-cells
overflow_add-cells c =
    omega (arith, (shape-of-accepted c.args.plan c.requires.0).cells-le)

pub write_tasks-requires : goal.write_tasks-requires
unfolding header_line
write_tasks-requires c =
    let p = c.args.plan in
    let room = text-length p in
    let lines1 : Laid c.args.out.now 0 (line_size * 1) (header_text c.args.plan) c.write_line.new.out = header-laid c.args.plan c.args.out.now _ _ c.numbers.ensures c.write_line.ensures in
    let lines2 : Laid c.args.out.now 0 (line_size * (1 + c.args.plan.cells)) (header_text c.args.plan ++ cells_text c.args.plan) c.write_cells.new.out = laid-lines lines1 1 p.cells (cells_text p) _ refl (rows-length _ p.cells) (omega (arith, c.requires.1)) c.write_cells.ensures in
    let h = shape-of-accepted p c.requires.0 in
    (h.tasks-le, omega (arith, c.requires.1, laid-length lines2 (omega (arith, c.requires.1))), omega (arith, h.cells-le, h.tasks-le))

pub overflow_add-cells-2 : goal.overflow_add-cells-2
overflow_add-cells-2 c =
    omega (arith, (shape-of-accepted c.args.plan c.requires.0).cells-le)

pub overflow_add-cells-3 : goal.overflow_add-cells-3
overflow_add-cells-3 c =
    let h = shape-of-accepted c.args.plan c.requires.0 in omega (arith, h.cells-le, h.tasks-le)

pub write_votes-next-requires : goal.write_votes-next-requires
unfolding header_line
write_votes-next-requires c =
    let p = c.args.plan in
    let room = text-length p in
    let lines1 : Laid c.args.out.now 0 (line_size * 1) (header_text c.args.plan) c.write_line.new.out = header-laid c.args.plan c.args.out.now _ _ c.numbers.ensures c.write_line.ensures in
    let lines2 : Laid c.args.out.now 0 (line_size * (1 + c.args.plan.cells)) (header_text c.args.plan ++ cells_text c.args.plan) c.write_cells.new.out = laid-lines lines1 1 p.cells (cells_text p) _ refl (rows-length _ p.cells) (omega (arith, c.requires.1)) c.write_cells.ensures in
    let lines3 : Laid c.args.out.now 0 (line_size * (1 + c.args.plan.cells + c.args.plan.task_count)) ((header_text c.args.plan ++ cells_text c.args.plan) ++ tasks_text c.args.plan) c.write_tasks.new.out = laid-lines lines2 (1 + p.cells) p.task_count (tasks_text p) _ refl (rows-length _ p.task_count) (omega (arith, c.requires.1)) c.write_tasks.ensures in
    let h = shape-of-accepted p c.requires.0 in
    let few = how_many-bound (λ e. get_or p.voted e false) 512 in
    (omega (arith, c.requires.1, laid-length lines3 (omega (arith, c.requires.1))), omega (arith, h.cells-le, h.tasks-le))

pub write_actuators-requires : goal.write_actuators-requires
unfolding header_line
write_actuators-requires c =
    let p = c.args.plan in
    let room = text-length p in
    let lines1 : Laid c.args.out.now 0 (line_size * 1) (header_text c.args.plan) c.write_line.new.out = header-laid c.args.plan c.args.out.now _ _ c.numbers.ensures c.write_line.ensures in
    let lines2 : Laid c.args.out.now 0 (line_size * (1 + c.args.plan.cells)) (header_text c.args.plan ++ cells_text c.args.plan) c.write_cells.new.out = laid-lines lines1 1 p.cells (cells_text p) _ refl (rows-length _ p.cells) (omega (arith, c.requires.1)) c.write_cells.ensures in
    let lines3 : Laid c.args.out.now 0 (line_size * (1 + c.args.plan.cells + c.args.plan.task_count)) ((header_text c.args.plan ++ cells_text c.args.plan) ++ tasks_text c.args.plan) c.write_tasks.new.out = laid-lines lines2 (1 + p.cells) p.task_count (tasks_text p) _ refl (rows-length _ p.task_count) (omega (arith, c.requires.1)) c.write_tasks.ensures in
    let lines4 : Laid c.args.out.now 0 (line_size * (1 + c.args.plan.cells + c.args.plan.task_count + how_many (λ e. get_or c.args.plan.voted e false) 512)) (((header_text c.args.plan ++ cells_text c.args.plan) ++ tasks_text c.args.plan) ++ votes_text c.args.plan) c.write_votes-next.new.out = laid-lines lines3 (1 + p.cells + p.task_count) (how_many (λ e. get_or p.voted e false) 512) (votes_text p) _ refl (vote_rows-length p.voted 512) (omega (arith, c.requires.1)) c.write_votes-next.ensures.1 in
    let h = shape-of-accepted p c.requires.0 in
    let few = how_many-bound (λ e. get_or p.voted e false) 512 in
    (h.actuators-le, omega (arith, c.requires.1, c.write_votes-next.ensures.0, laid-length lines4 (omega (arith, c.requires.1))), omega (arith, h.cells-le, h.tasks-le, h.actuators-le, c.write_votes-next.ensures.0))

pub returns : goal.returns
unfolding header_line
returns c =
    let p = c.args.plan in
    let room = text-length p in
    let lines1 : Laid c.args.out.now 0 (line_size * 1) (header_text c.args.plan) c.write_line.new.out = header-laid c.args.plan c.args.out.now _ _ c.numbers.ensures c.write_line.ensures in
    let lines2 : Laid c.args.out.now 0 (line_size * (1 + c.args.plan.cells)) (header_text c.args.plan ++ cells_text c.args.plan) c.write_cells.new.out = laid-lines lines1 1 p.cells (cells_text p) _ refl (rows-length _ p.cells) (omega (arith, c.requires.1)) c.write_cells.ensures in
    let lines3 : Laid c.args.out.now 0 (line_size * (1 + c.args.plan.cells + c.args.plan.task_count)) ((header_text c.args.plan ++ cells_text c.args.plan) ++ tasks_text c.args.plan) c.write_tasks.new.out = laid-lines lines2 (1 + p.cells) p.task_count (tasks_text p) _ refl (rows-length _ p.task_count) (omega (arith, c.requires.1)) c.write_tasks.ensures in
    let lines4 : Laid c.args.out.now 0 (line_size * (1 + c.args.plan.cells + c.args.plan.task_count + how_many (λ e. get_or c.args.plan.voted e false) 512)) (((header_text c.args.plan ++ cells_text c.args.plan) ++ tasks_text c.args.plan) ++ votes_text c.args.plan) c.write_votes-next.new.out = laid-lines lines3 (1 + p.cells + p.task_count) (how_many (λ e. get_or p.voted e false) 512) (votes_text p) _ refl (vote_rows-length p.voted 512) (omega (arith, c.requires.1)) c.write_votes-next.ensures.1 in
    text-laid p (laid-lines lines4 c.write_votes-next.result p.actuators (actuators_text p) _ c.write_votes-next.ensures.0 (rows-length _ p.actuators) (omega (arith, c.requires.1)) c.write_actuators.ensures)
