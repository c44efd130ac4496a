-- `ragbasalt_system_power_on` meets its contract: what the call that it wraps gives, of what the words are.
use mathlib.Core.Path.{sym, ap, ◌∙◌}
use native.Mathlib.Omega.{arith}
use Rattle.answer.proofs.TestLaws.{given-value}
use Rattle.plan.specs.Limits.{most_nodes}
use Rattle.plan_period.specs.Answers.{plan_tests}
use Rattle.plan_words.specs.Words.{plan_of_words}
use Rattle.system.specs.declared.System.{System}
use Rattle.system.specs.System.{power_on, system_power_on_answer}
use Rattle.system_words.specs.Words.{with_system}
use Rattle.system_words.proofs.GivenLaws.{code-done, code-refused, system-given, system-kept}
use Rattle.ragbasalt_system.proofs.ragbasalt_system_power_on.Goals as goal

pub put_system-requires : goal.put_system-requires
put_system-requires c = omega arith

pub returns-in-Ok : goal.returns-in-Ok
unfolding system_power_on_answer
returns-in-Ok c =
    let p = plan_of_words c.args.plan.now in
    let e = rw c.plan-p.ensures at (sym c.power_on.ensures ∙ c.in-Ok.is) in (
      code-done _ e,
      c.put_system.ensures ∙ ap (λ (s : System). with_system most_nodes s c.args.system.now) (given-value (plan_tests p) (power_on p) e) ∙ system-given _ e _ _ _,
    )

pub returns-in-Err : goal.returns-in-Err
returns-in-Err c =
    let e = rw c.plan-p.ensures at (sym c.power_on.ensures ∙ c.in-Err.is) in
    (c.code.ensures ∙ code-refused _ e, system-kept _ e _ _ _)
