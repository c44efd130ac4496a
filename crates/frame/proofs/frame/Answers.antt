-- `frame::frame` meets its contract, by each way out.
use mathlib.Core.Path.{sym, ◌∙◌}
use Rattle.answer.proofs.TestLaws.{handed-on}
use Rattle.plan_period.proofs.AnswerLaws.{accepted-of-period, period-is}
use Rattle.plan.proofs.AcceptedLaws.{shape-of-accepted}
use Rattle.counts.proofs.CountLaws.{mask-are}
use Rattle.row_frame.proofs.FrameLaws.{sizes-are, sizes-small}
use Rattle.frame.proofs.CallLaws.{frame-plan, frame-mask, frame-length, frame-done, lengths-told, parts-exact}
use Rattle.frame.proofs.frame.Goals as goal

pub returns-in_err-period : goal.returns-in_err-period
returns-in_err-period c = frame-plan _ _ _ _ _ _ (sym c.recovery_period.ensures ∙ c.in_err-period.was) (handed-on c.from_residual.result c.from_residual.ensures.1)

pub mask_ok-requires : goal.mask_ok-requires
mask_ok-requires c = (shape-of-accepted _ (accepted-of-period _ (sym c.recovery_period.ensures ∙ c.in_ok-period.was))).nodes-high

pub counts_ok-requires : goal.counts_ok-requires
counts_ok-requires c = (shape-of-accepted _ (accepted-of-period _ (sym c.recovery_period.ensures ∙ c.in_ok-period.was))).nodes-high

pub returns-then-not-mask_ok-counts_ok : goal.returns-then-not-mask_ok-counts_ok
returns-then-not-mask_ok-counts_ok c =
    let found = sym c.recovery_period.ensures ∙ c.in_ok-period.was in
    let a = c.args in
    let ok = accepted-of-period _ found in
    let tests = mask-are a.plan a.system.now a.mask (period-is _ found) c.mask_ok.ensures c.counts_ok.ensures in
    frame-mask _ _ _ _ _ _ ok (sym tests ∙ c.if-not-mask_ok-counts_ok.true)

pub lengths_ok-requires : goal.lengths_ok-requires
lengths_ok-requires c =
    let found = sym c.recovery_period.ensures ∙ c.in_ok-period.was in
    let ok = accepted-of-period _ found in
    (ok, period-is _ found)

pub returns-then-not-lengths_ok : goal.returns-then-not-lengths_ok
returns-then-not-lengths_ok c =
    let found = sym c.recovery_period.ensures ∙ c.in_ok-period.was in
    let a = c.args in
    let ok = accepted-of-period _ found in
    let tests = mask-are a.plan a.system.now a.mask (period-is _ found) c.mask_ok.ensures c.counts_ok.ensures in
    frame-length _ _ _ _ _ _ ok (sym tests ∙ c.if-not-mask_ok-counts_ok.false) (sym c.lengths_ok.ensures ∙ c.if-not-lengths_ok.true)

pub invariant_of-told : goal.invariant_of-told
invariant_of-told c =
    let found = sym c.recovery_period.ensures ∙ c.in_ok-period.was in
    let a = c.args in
    let lengths = lengths-told a.plan _ _ _ (sym c.lengths_ok.ensures ∙ c.if-not-lengths_ok.false) in
    let e = sizes-are a.plan (period-is _ found) c.sizes_with.ensures in
    record { small = (sizes-small a.plan (accepted-of-period _ found) _ e).0; parts = parts-exact a.plan a.mask _ e lengths.1 }

pub on_rows-agreement-requires : goal.on_rows-agreement-requires
on_rows-agreement-requires c =
    let found = sym c.recovery_period.ensures ∙ c.in_ok-period.was in
    let lengths = lengths-told c.args.plan _ _ _ (sym c.lengths_ok.ensures ∙ c.if-not-lengths_ok.false) in
    (accepted-of-period _ found, sizes-are c.args.plan (period-is _ found) c.sizes_with.ensures, lengths.0, lengths.2)

pub returns : goal.returns
returns c =
    let found = sym c.recovery_period.ensures ∙ c.in_ok-period.was in
    let a = c.args in
    let ok = accepted-of-period _ found in
    let tests = mask-are a.plan a.system.now a.mask (period-is _ found) c.mask_ok.ensures c.counts_ok.ensures in
    frame-done _ _ _ _ _ _ ok (sym tests ∙ c.if-not-mask_ok-counts_ok.false) (sym c.lengths_ok.ensures ∙ c.if-not-lengths_ok.false) c.on_rows-agreement.ensures
