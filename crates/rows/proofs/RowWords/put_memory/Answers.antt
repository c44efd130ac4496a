-- `rows::RowWords::put_memory` meets its contract: the counter and the part are stored.
use mathlib.Core.Path.{◌≡◌, refl, sym, ◌∙◌}
use Prim.Native.Nat.{◌+◌, ◌-◌, ◌*◌}
use native.Mathlib.Omega.{arith}
use lib.ListN.{length}
use borrow.Author.Rules.{rules}
use Rattle.plan.specs.Limits.{most_cells}
use Rattle.array.proofs.LoopLaws.{length-mapped}
use Rattle.array.proofs.PlacedLaws.{part_length}
use Rattle.rows.proofs.RowLaws.{stored-memory}
use Rattle.rows.proofs.RowWords.put_memory.Goals as goal

pub copy-requires : goal.copy-requires
copy-requires c =
    let a = c.args in
    let rows = a.self.now in
    let n : length a.m.cells ≡ most_cells = search (rules, length-mapped) in
    let z : most_cells * a.r + most_cells - most_cells * a.r ≡ most_cells = omega arith in
    n ∙ sym (part_length rows.cells (most_cells * a.r) (most_cells * a.r + most_cells - most_cells * a.r) most_cells z (omega (arith, rows.cells_size, c.requires)))

pub returns : goal.returns
returns c =
    let a = c.args in
    let rows = a.self.now in
    let n : length a.m.cells ≡ most_cells = search (rules, length-mapped) in
    let z : most_cells * a.r + most_cells - most_cells * a.r ≡ most_cells = omega arith in
    (stored-memory a.m rows.counters rows.cells _ a.r refl z (omega (arith, rows.counters_size, c.requires)) (omega (arith, rows.cells_size, c.requires)) n c.copy.ensures, refl, refl)
