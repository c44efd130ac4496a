-- `plan_check::print` meets its contract: the text refused, or the line of R.
use mathlib.Core.Path.{sym, ◌∙◌}
use Rattle.plan_check.proofs.CheckLaws.{print-refused, print-period}
use Rattle.plan_check.proofs.print.Goals as goal

pub returns-in-Ok : goal.returns-in-Ok
returns-in-Ok c = print-period c.args.text.now c.args.out.now c.requires (sym c.read.ensures ∙ c.in-Ok.is) c.put.ensures

pub returns-in-Err : goal.returns-in-Err
returns-in-Err c = print-refused c.args.text.now c.args.out.now c.requires (sym c.read.ensures ∙ c.in-Err.is) c.write_refusal.ensures
