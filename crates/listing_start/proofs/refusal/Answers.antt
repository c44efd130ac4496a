-- `listing_start::refusal` meets its contract, for each way out.
use Rattle.run_line.proofs.WritingLaws.{refusal-length}
use Rattle.listing_start.proofs.CallLaws.{refusal-short, refusal-none, refusal-written}
use Rattle.listing_start.proofs.refusal.Goals as goal

pub returns-then-out-lt-REFUSAL : goal.returns-then-out-lt-REFUSAL
returns-then-out-lt-REFUSAL c = refusal-short c.args.out.now c.args.refused c.if-out-lt-REFUSAL.true

pub returns-in_default : goal.returns-in_default
returns-in_default c = refusal-none c.args.out.now c.if-out-lt-REFUSAL.false c.in_default.is

pub returns : goal.returns
returns c = refusal-written c.args.out.now c.if-out-lt-REFUSAL.false c.in-Some.is (refusal-length c.in-Some.refusal) c.write_refusal.ensures
