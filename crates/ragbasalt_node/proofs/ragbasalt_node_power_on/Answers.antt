-- `ragbasalt_node_power_on` meets its contract: what the call that it wraps gives, of what the words are.
use mathlib.Core.Path.{sym, ap, ◌∙◌}
use Rattle.answer.proofs.TestLaws.{given-value}
use Rattle.plan_period.specs.Answers.{plan_tests}
use Rattle.memory.specs.declared.Memory.{Memory}
use Rattle.memory.specs.Node.{powered_on}
use Rattle.node.specs.Answers.{power_on_answer}
use Rattle.plan_words.specs.Words.{plan_of_words}
use Rattle.system_words.specs.Words.{with_memory}
use Rattle.system_words.proofs.GivenLaws.{code-done, code-refused, memory-given, memory-kept}
use Rattle.ragbasalt_node.proofs.ragbasalt_node_power_on.Goals as goal

pub returns-in-Ok : goal.returns-in-Ok
unfolding power_on_answer
returns-in-Ok c =
    let p = plan_of_words c.args.plan.now in
    let e = rw c.plan-p.ensures at (sym c.power_on.ensures ∙ c.in-Ok.is) in
    (code-done _ e, c.put_memory.ensures ∙ ap (λ (m : Memory). with_memory m 0 c.args.memory.now) (given-value (plan_tests p) (powered_on p) e) ∙ memory-given _ e _ _)

pub returns-in-Err : goal.returns-in-Err
returns-in-Err c =
    let e = rw c.plan-p.ensures at (sym c.power_on.ensures ∙ c.in-Err.is) in
    (c.code.ensures ∙ code-refused _ e, memory-kept _ e _ _)
