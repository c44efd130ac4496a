-- `plan_line::read_line` meets its contract: one law for each way to refuse a line, and one for a line that is read.
use Rattle.plan_line.proofs.ReaderLaws.{bad-length, bad-1, bad-2, bad-3, bad-4, bad-5, bad-6, bad-end, whole-line}
use Rattle.std.proofs.Common.{sym, ◌∙◌, rules}
use Rattle.plan_line.proofs.read_line.Goals as goal

pub returns-then-line-ne-SIZE : goal.returns-then-line-ne-SIZE
returns-then-line-ne-SIZE c = bad-length c.args.line.now c.if-line-ne-SIZE.true

pub returns-in_err-kind : goal.returns-in_err-kind
returns-in_err-kind c = rw c.from_residual.ensures (bad-1 _ c.in_err-kind.ensures)

pub returns-in_err-second : goal.returns-in_err-second
returns-in_err-second c = rw c.from_residual-in_err-second.ensures (bad-2 _ c.in_err-second.ensures)

pub returns-in_err-third : goal.returns-in_err-third
returns-in_err-third c = rw c.from_residual-in_err-third.ensures (bad-3 _ c.in_err-third.ensures)

pub returns-in_err-fourth : goal.returns-in_err-fourth
returns-in_err-fourth c = rw c.from_residual-in_err-fourth.ensures (bad-4 _ c.in_err-fourth.ensures)

pub returns-in_err-fifth : goal.returns-in_err-fifth
returns-in_err-fifth c = rw c.from_residual-in_err-fifth.ensures (bad-5 _ (sym c.in_err-fifth.was ∙ c.read_wide-fifth_shown.ensures))

pub returns-in_err-sixth : goal.returns-in_err-sixth
returns-in_err-sixth c = rw c.from_residual-in_err-sixth.ensures (bad-6 _ (sym c.in_err-sixth.was ∙ c.read_wide-sixth_shown.ensures))

pub returns-then-line-ne10 : goal.returns-then-line-ne10
returns-then-line-ne10 c = bad-end _ (search rules) c.if-line-ne10.true

pub returns : goal.returns
returns c =
    whole-line _ (search rules) c.if-line-ne10.false c.in_ok-kind.ensures c.in_ok-second.ensures c.in_ok-third.ensures c.in_ok-fourth.ensures (sym c.in_ok-fifth.was ∙ c.read_wide-fifth_shown.ensures) (sym c.in_ok-sixth.was ∙ c.read_wide-sixth_shown.ensures)
