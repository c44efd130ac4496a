-- `ragbasalt_card_power_on` meets its contract: what the call that it wraps gives, of what the words are.
use mathlib.Core.Path.{sym, ap, ◌∙◌}
use Rattle.answer.proofs.TestLaws.{given-value}
use Rattle.plan_period.specs.Answers.{plan_tests}
use Rattle.plan_words.specs.Words.{plan_of_words}
use Rattle.system_words.proofs.GivenLaws.{code-done, code-refused}
use Rattle.card.specs.declared.Card.{Card}
use Rattle.card.specs.Card.{powered_card, card_power_on}
use Rattle.card_words.specs.Words.{with_card}
use Rattle.card_words.proofs.GivenLaws.{card-given, card-kept, bins-given, bins-kept}
use Rattle.ragbasalt_card.proofs.ragbasalt_card_power_on.Goals as goal

pub returns-in-Ok : goal.returns-in-Ok
unfolding card_power_on
returns-in-Ok c =
    let p = plan_of_words c.args.plan.now in
    let e = rw c.plan-p.ensures at (sym c.power_on.ensures ∙ c.in-Ok.is) in
    let k = given-value (plan_tests p) (powered_card p) e in (
      code-done _ e,
      c.put_card.ensures ∙ ap (λ (x : Card). with_card x c.args.card.now) k ∙ card-given _ e _ _,
      ap (λ (x : Card). x.bins) k ∙ bins-given _ e _ _,
    )

pub returns-in-Err : goal.returns-in-Err
returns-in-Err c =
    let e = rw c.plan-p.ensures at (sym c.power_on.ensures ∙ c.in-Err.is) in
    (c.code.ensures ∙ code-refused _ e, card-kept _ e _ _, bins-kept _ e _ _)
