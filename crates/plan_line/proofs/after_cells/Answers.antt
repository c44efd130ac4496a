use Rattle.plan_grammar.specs.Refused.{after_cells}
use mathlib.Core.Path.{refl}
use Rattle.plan_line.proofs.after_cells.Goals as goal

pub returns : goal.returns
unfolding after_cells
returns c = refl
