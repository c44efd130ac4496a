-- `plan_text_write::write` meets its contract: a record that is not accepted, a buffer that is too short, or the text.
use mathlib.Core.Path.{sym, ◌∙◌}
use native.Mathlib.Omega.{arith}
use Rattle.answer.proofs.TestLaws.{handed-on}
use Rattle.plan_period.proofs.AnswerLaws.{accepted-of-period}
use Rattle.plan_text_write.proofs.WriteLaws.{write-refused, write-short, write_done}
use Rattle.plan_text_write.proofs.write.Goals as goal

pub returns-in_err-recovery_period : goal.returns-in_err-recovery_period
returns-in_err-recovery_period c =
    let found = write-refused c.args.plan c.args.out.now (sym c.recovery_period.ensures ∙ c.in_err-recovery_period.was) in
    (handed-on c.from_residual.result c.from_residual.ensures.1 ∙ found.0, found.1)

pub text_size-count-requires : goal.text_size-count-requires
text_size-count-requires c = accepted-of-period c.args.plan (sym c.recovery_period.ensures ∙ c.in_ok-recovery_period.was)

pub returns-then-out-count : goal.returns-then-out-count
returns-then-out-count c =
    write-short c.args.plan c.args.out.now (accepted-of-period c.args.plan (sym c.recovery_period.ensures ∙ c.in_ok-recovery_period.was)) (omega (arith, c.text_size-count.ensures))

pub write-requires : goal.write-requires
write-requires c =
    (accepted-of-period c.args.plan (sym c.recovery_period.ensures ∙ c.in_ok-recovery_period.was), omega (arith, c.text_size-count.ensures))

pub returns : goal.returns
returns c =
    write_done c.args.plan c.args.out.now _ _ (accepted-of-period c.args.plan (sym c.recovery_period.ensures ∙ c.in_ok-recovery_period.was)) (omega (arith, c.text_size-count.ensures)) c.text_size-count.ensures c.write.ensures
