-- The code's own: the kinds of lines, and what a line that was read says, as the numbers of a line. No definition of document 01 cites this.
use Rattle.std.specs.Prelude.{◌≡◌, List, [], ◌∷◌, ℕ, Option, MatchOption}
use Rattle.plan_grammar.specs.Line.{header_kind, cell_kind, take_kind, sum_kind, diff_kind, scale_kind, limit_kind, wind_kind, cam_kind, vote_kind, actuator_kind}
use Rattle.plan_line.specs.declared.Kind.{Kind}
use Rattle.plan_line.specs.declared.Kind.TheVariants.{Header, Cell, Take, Sum, Diff, Scale, Limit, Wind, Cam, Vote, Actuator}
use Rattle.plan_line.specs.declared.Line.{Line}

abbrev pub kind_number : Kind → ℕ
kind_number Header = header_kind
kind_number Cell = cell_kind
kind_number Take = take_kind
kind_number Sum = sum_kind
kind_number Diff = diff_kind
kind_number Scale = scale_kind
kind_number Limit = limit_kind
kind_number Wind = wind_kind
kind_number Cam = cam_kind
kind_number Vote = vote_kind
kind_number Actuator = actuator_kind

-- the kind with this number; none where no kind has it
abbrev pub KindOf : ℕ → Option Kind → Type 0
KindOf number o = MatchOption o ((k : Kind) → number ≡ kind_number k → ⊥) (λ k. number ≡ kind_number k)

abbrev pub numbers_in : Line → List ℕ
numbers_in l = l.kind ∷ l.second ∷ l.third ∷ l.fourth ∷ l.fifth ∷ l.sixth ∷ []
