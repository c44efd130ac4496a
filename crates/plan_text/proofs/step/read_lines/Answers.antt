-- `plan_text::step::read_lines` meets its contract: the first i lines pass and mean the record so far; the first line that does not pass refuses the text.
use Rattle.std.specs.Prelude.{Some, Err, ok_or, unwrap_or}
use Rattle.std.specs.Result.{result_ok, result_err}
use Rattle.answer.specs.declared.Refusal.TheVariants.{Unrecoverable}
use Rattle.answer.proofs.TestLaws.{handed-on}
use mathlib.Core.Path.{◌≡◌, sym, ap, ◌∙◌}
use mathlib.Core.Bool.{true, not}
use Prim.Native.Nat.{◌+◌, ◌-◌}
use native.Mathlib.Omega.{arith}
use lib.ListN.{set}
use lib.Seq.{set_out}
use Rattle.plan_grammar.specs.Line.{numbers_at}
use Rattle.plan_grammar.specs.Meant.{with_line}
use Rattle.plan_grammar.specs.Refused.{in_order, in_range}
use Rattle.plan_line.specs.Code.{numbers_in}
use Rattle.plan_grammar.proofs.RefusedLaws.{cell-index, vote-index, actuator-index}
use Rattle.plan_period.proofs.AnswerLaws.{any-some, any-none}
use Rattle.plan_text.proofs.StoreLaws.{later-kind, header-stored, task-stored, other-stored, counted}
use Rattle.array.proofs.TestLaws.{passed-test}
use Rattle.plan_text.proofs.ReadLaws.{whole-line, no_line, read-start, read-tasks, read_count, read_more, read-well_formed, answer-malformed, answer-order, answer-range, answer-missing, answer-unrecoverable, answer-done}
use Rattle.plan_text.proofs.step.read_lines.Goals as goal
use Rattle.plan_text.proofs.step.read_lines.Goals.{then-is_task, else-is_task, then-count-lt-TASKS, else-count-lt-TASKS}

pub loop-i-init : goal.loop-i-init
loop-i-init c =
    read-start c.requires.0 c.requires.1 c.requires.2 (header-stored _ _ _ _ _ _ _ c.requires.2 c.zero_plan-plan.ensures)

pub returns-in_default : goal.returns-in_default
returns-in_default c =
    let loop = c.loop-i in
    answer-malformed loop.invariant c.loop-i-test.true (no_line c.args.text.now loop.i c.read_line.ensures c.in_default.is)

pub returns-then-not-in_order : goal.returns-then-not-in_order
returns-then-not-in_order c =
    let numbers : numbers_at c.args.text.now c.loop-i.i ≡ Some (numbers_in c.in-Some.l) = whole-line c.args.text.now c.loop-i.i c.read_line.ensures c.in-Some.is in
    let loop = c.loop-i in
    answer-order loop.invariant c.loop-i-test.true numbers c.in_order.ensures (ap not c.if-not-in_order.true)

pub returns-then-not-in_range : goal.returns-then-not-in_range
returns-then-not-in_range c =
    let numbers : numbers_at c.args.text.now c.loop-i.i ≡ Some (numbers_in c.in-Some.l) = whole-line c.args.text.now c.loop-i.i c.read_line.ensures c.in-Some.is in
    let order : in_order (numbers_in c.args.h) (c.loop-i.i - 1) (numbers_in c.loop-i.prev) (numbers_in c.in-Some.l) ≡ true = passed-test c.in_order.ensures (ap not c.if-not-in_order.false) in
    let loop = c.loop-i in
    answer-range loop.invariant c.loop-i-test.true numbers order c.in_range.ensures (ap not c.if-not-in_range.true)

pub store_initial-requires : goal.store_initial-requires
store_initial-requires c =
    let order : in_order (numbers_in c.args.h) (c.loop-i.i - 1) (numbers_in c.loop-i.prev) (numbers_in c.in-Some.l) ≡ true = passed-test c.in_order.ensures (ap not c.if-not-in_order.false) in
    cell-index _ c.requires.2 _ _ _ order

pub store_vote-requires : goal.store_vote-requires
store_vote-requires c =
    let range : in_range (numbers_in c.args.h) (numbers_in c.in-Some.l) ≡ true = passed-test c.in_range.ensures (ap not c.if-not-in_range.false) in
    vote-index _ c.requires.2 _ range

pub store_actuator-requires : goal.store_actuator-requires
store_actuator-requires c =
    let order : in_order (numbers_in c.args.h) (c.loop-i.i - 1) (numbers_in c.loop-i.prev) (numbers_in c.in-Some.l) ≡ true = passed-test c.in_order.ensures (ap not c.if-not-in_order.false) in
    actuator-index _ c.requires.2 _ _ _ order

pub overflow_add-plan : goal.overflow_add-plan
overflow_add-plan c =
    let loop = c.loop-i in
    omega (arith, read_count loop.invariant)

pub loop-i-preserved : goal.loop-i-preserved
loop-i-preserved c =
    let numbers : numbers_at c.args.text.now c.loop-i.i ≡ Some (numbers_in c.in-Some.l) = whole-line c.args.text.now c.loop-i.i c.read_line.ensures c.in-Some.is in
    let order : in_order (numbers_in c.args.h) (c.loop-i.i - 1) (numbers_in c.loop-i.prev) (numbers_in c.in-Some.l) ≡ true = passed-test c.in_order.ensures (ap not c.if-not-in_order.false) in
    let range : in_range (numbers_in c.args.h) (numbers_in c.in-Some.l) ≡ true = passed-test c.in_range.ensures (ap not c.if-not-in_range.false) in
    let p = c.loop-i.plan in
    let n = p.task_count in
    let k = later-kind _ _ _ _ order in
    let stored : c.if-is_task.plan ≡ with_line (numbers_in c.in-Some.l) c.loop-i.plan =
    elim c.if-is_task.branch [
      | then-is_task w ↦
          let kind = sym c.is_task.ensures ∙ w.if-is_task.true in
          w.plan-is
          ∙ elim w.if-count-lt-TASKS.branch [
            | then-count-lt-TASKS v ↦ ap (counted (n + 1)) v.plan-is ∙ task-stored p _ k c.store_initial.ensures c.store_vote.ensures c.store_actuator.ensures kind (ap (set p.tasks n) w.task_of-t.ensures)
            | else-count-lt-TASKS v ↦ ap (counted (n + 1)) v.plan-is ∙ task-stored p _ k c.store_initial.ensures c.store_vote.ensures c.store_actuator.ensures kind (sym (set_out p.tasks n _ (omega (arith, read-tasks c.loop-i.invariant))))
          ]
      | else-is_task w ↦ w.plan-is ∙ other-stored p _ k c.store_initial.ensures c.store_vote.ensures c.store_actuator.ensures (sym c.is_task.ensures ∙ w.if-is_task.false)
    ] in
    let loop = c.loop-i in
    read_more loop.invariant c.loop-i-test.true numbers order range stored

pub returns-then-not-is_last : goal.returns-then-not-is_last
returns-then-not-is_last c = answer-missing c.loop-i.invariant c.loop-i-test.false c.is_last.ensures (ap not c.if-not-is_last.true)

pub period-requires : goal.period-requires
period-requires c = read-well_formed c.loop-i.invariant c.loop-i-test.false c.is_last.ensures (ap not c.if-not-is_last.false)

pub returns-in_err-period : goal.returns-in_err-period
returns-in_err-period c =
    let loop = c.loop-i in
    let none = c.ok_or.ensures.ok_part ∙ ap result_ok c.in_err-period.was in
    let which = ap (λ o. unwrap_or (result_err o) Unrecoverable) (sym c.in_err-period.was ∙ c.ok_or.ensures.value ∙ ap (λ o. ok_or o Unrecoverable) none) in
    handed-on c.from_residual.result c.from_residual.ensures.1 ∙ ap Err which ∙ answer-unrecoverable loop.invariant c.loop-i-test.false c.is_last.ensures (ap not c.if-not-is_last.false) (any-none _ (sym none ∙ c.period.ensures))

pub returns : goal.returns
returns c =
    let some = c.ok_or.ensures.ok_part ∙ ap result_ok c.in_ok-period.was in
    let found = any-some _ (sym some ∙ c.period.ensures) in
    answer-done c.loop-i.invariant c.loop-i-test.false c.is_last.ensures (ap not c.if-not-is_last.false) found.0 (λ z. omega (arith, z, found.0, found.1))
