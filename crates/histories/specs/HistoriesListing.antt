-- Request 2026-05: "A program prints those of length 3 for `plan.txt`, one a line, masks in width 4, or the refusal as a run does."
use Rattle.std.specs.Prelude.{cond, List, [], ◌∷◌, ℕ, length, get_or}
use Rattle.array.specs.Index.{joined}
use Rattle.answer.specs.declared.Refusal.TheVariants.{NodesOrLength}
use Rattle.column.specs.Row.{row}
use Rattle.plan.specs.declared.Plan.{Plan}
use Rattle.plan_grammar.specs.Meant.{plan_of}
use Rattle.plan_grammar.specs.Refused.{text_refusal}
use Rattle.history_masks.specs.Limits.{limits_ok}
use Rattle.history.specs.Answers.{plan_histories}
use Rattle.run_line.specs.Line.{mask_width, refusal_line}
use Rattle.run_line.specs.Listing.{lines_or}

-- "those of length 3"
abbrev pub history_frames : ℕ
history_frames = 3

-- "masks in width 4"
abbrev pub history_widths : List ℕ
history_widths = mask_width ∷ mask_width ∷ mask_width ∷ []

unfoldable pub history_lines : List (List ℕ) → List ℕ
history_lines hs = joined (λ i. row history_widths (get_or hs i [])) (length hs)

-- for an accepted plan: 11 where it has too many nodes
unfoldable pub plan_listing : Plan → List ℕ
plan_listing p = cond (limits_ok p.nodes history_frames) (history_lines (plan_histories p history_frames)) (refusal_line NodesOrLength)

-- the whole output, by the bytes of plan.txt
unfoldable pub histories_listing : List ℕ → List ℕ
histories_listing text = lines_or (text_refusal text) (plan_listing (plan_of text))
