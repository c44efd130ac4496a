-- `column_write::glyph` meets its contract: each arm's test says which case of `mark` holds.
use borrow.Author.Tests.{eq-eqb, ne_eqb}
use Rattle.column.specs.Column.{mark}
use Rattle.column_write.proofs.glyph.Goals as goal

pub returns-then-q-eq0 : goal.returns-then-q-eq0
unfolding mark
returns-then-q-eq0 c = simp (eq-eqb _ _ c.if-q-eq0.true)

pub returns-else-q-eq0 : goal.returns-else-q-eq0
unfolding mark
returns-else-q-eq0 c = simp (ne_eqb _ _ c.if-q-eq0.false)
