-- `listing_start::start` meets its contract: a text that is read has an accepted plan.
use mathlib.Core.Path.{sym, ◌∙◌}
use Rattle.answer.proofs.TestLaws.{handed-on}
use Rattle.listing_start.proofs.CallLaws.{found-accepted, found-period, start-refused, start-done}
use Rattle.listing_start.proofs.start.Goals as goal

pub returns-in_err-read : goal.returns-in_err-read
returns-in_err-read c = handed-on c.from_residual.result c.from_residual.ensures.1 ∙ start-refused c.args.text.now (sym c.read.ensures ∙ c.in_err-read.was)

pub started-system-requires : goal.started-system-requires
started-system-requires c =
    let e = sym c.read.ensures ∙ c.in_ok-read.was in
    (found-accepted c.args.text.now e, found-period c.args.text.now e)

pub power_on-single-requires : goal.power_on-single-requires
power_on-single-requires c = found-accepted c.args.text.now (sym c.read.ensures ∙ c.in_ok-read.was)

pub returns : goal.returns
returns c = start-done c.args.text.now (sym c.read.ensures ∙ c.in_ok-read.was) c.started-system.ensures c.power_on-single.ensures
