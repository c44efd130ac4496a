-- What the program prints for a plan text: the recovery period R of the plan it means, or the refusal as a run does.
use Rattle.std.specs.Prelude.{List, [], ◌∷◌, ℕ}
use Rattle.column.specs.Row.{row}
use Rattle.plan.specs.Known.{period}
use Rattle.plan_grammar.specs.Meant.{plan_of}
use Rattle.plan_grammar.specs.Refused.{text_refusal}
use Rattle.run_line.specs.Listing.{lines_or}

-- one column, as wide as the listing's counts
abbrev pub period_widths : List ℕ
period_widths = 4 ∷ []

unfoldable pub period_line : ℕ → List ℕ
period_line r = row period_widths (r ∷ [])

-- the whole output, by the bytes of plan.txt
unfoldable pub check_listing : List ℕ → List ℕ
check_listing text = lines_or (text_refusal text) (period_line (period (plan_of text)))
