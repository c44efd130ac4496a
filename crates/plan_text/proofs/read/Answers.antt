-- `plan_text::read` meets its contract: it takes the plan of what is found.
use mathlib.Core.Path.{sym, ◌∙◌}
use Rattle.answer.proofs.TestLaws.{handed-on}
use Rattle.plan_text.proofs.ReadLaws.{read-of-found, refusal-of-found}
use Rattle.plan_text.proofs.read.Goals as goal

pub returns-in_err-found : goal.returns-in_err-found
returns-in_err-found c = handed-on c.from_residual.result c.from_residual.ensures.1 ∙ refusal-of-found c.args.text.now (sym c.read.ensures ∙ c.in_err-found.was)

pub returns : goal.returns
returns c = read-of-found c.args.text.now (sym c.read.ensures ∙ c.in_ok-found.was)
