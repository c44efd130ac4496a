-- `rows::RowWords::memory` meets its contract.
use mathlib.Core.Path.{refl, ◌∙◌}
use Rattle.rows.proofs.RowLaws.{memory-eq, row-part}
use Rattle.rows.proofs.RowWords.memory.Goals as goal

pub returns : goal.returns
returns c =
    let a = c.args in
    memory-eq refl (c.copy.ensures ∙ row-part a.self.now.cells a.r)
