-- `ragbasalt_plan_read` meets its contract: a result for each way out.
use mathlib.Core.Path.{sym, ap, ◌∙◌}
use Rattle.plan.specs.declared.Plan.{Plan}
use Rattle.plan_text.proofs.GivenLaws.{plan-given}
use Rattle.plan_words.specs.Words.{plan_words}
use Rattle.system_words.proofs.GivenLaws.{code-done, code-refused, done-given, done-kept}
use Rattle.ragbasalt_plan.proofs.ReadLaws.{read-accepted}
use Rattle.ragbasalt_plan.proofs.ragbasalt_plan_read.Goals as goal

pub words-words-requires : goal.words-words-requires
words-words-requires c = read-accepted _ (sym c.read.ensures ∙ c.in-Ok.is)

pub returns-in-Ok : goal.returns-in-Ok
returns-in-Ok c =
    let e = sym c.read.ensures ∙ c.in-Ok.is in
    (code-done _ e, c.words-words.ensures ∙ ap (λ (p : Plan). plan_words p) (plan-given _ e).1 ∙ done-given _ e _ _)

pub returns-in-Err : goal.returns-in-Err
returns-in-Err c =
    let e = sym c.read.ensures ∙ c.in-Err.is in
    (c.code.ensures ∙ code-refused _ e, done-kept _ e _ _)
