-- `ragbasalt_card_write` meets its contract: what the call that it wraps gives, of what the words are.
use mathlib.Core.Path.{sym, ap, ◌∙◌}
use Rattle.plan_words.specs.Words.{plan_of_words}
use Rattle.system_words.proofs.GivenLaws.{code-done, code-refused}
use Rattle.card.specs.declared.Card.{Card}
use Rattle.card_words.specs.Words.{with_card}
use Rattle.card_words.proofs.GivenLaws.{card-given, card-kept}
use Rattle.ragbasalt_card.proofs.WordsLaws.{write-alike}
use Rattle.ragbasalt_card.proofs.ragbasalt_card_write.Goals as goal

pub returns-in-Ok : goal.returns-in-Ok
returns-in-Ok c bytes =
    let told = rw (c.plan-p.ensures, c.bare-k.ensures) at c.write.ensures in
    let e = sym told.0 ∙ c.in-Ok.is in (
      code-done _ e,
      c.put_card.ensures
          ∙ ap (λ (x : Card). with_card x c.args.card.now) told.1
          ∙ write-alike (plan_of_words c.args.plan.now) c.args.card.now _ bytes c.args.at c.args.value c.args.card.now
          ∙ card-given _ e _ _,
    )

pub returns-in-Err : goal.returns-in-Err
returns-in-Err c bytes =
    let told = rw (c.plan-p.ensures, c.bare-k.ensures) at c.write.ensures in
    let e = sym told.0 ∙ c.in-Err.is in
    (c.code.ensures ∙ code-refused _ e, card-kept _ e _ _)
