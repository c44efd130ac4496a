-- `ragbasalt_card_tick` meets its contract: what the call that it wraps gives, of what the words are.
use mathlib.Core.Path.{sym, ap, ◌∙◌}
use Rattle.system_words.proofs.GivenLaws.{code-done, code-refused}
use Rattle.card.specs.declared.Card.{Card}
use Rattle.card_words.specs.Words.{with_card}
use Rattle.card_words.proofs.GivenLaws.{card-given, card-kept, bins-given, bins-kept}
use Rattle.ragbasalt_card.proofs.ragbasalt_card_tick.Goals as goal

pub returns-in-Ok : goal.returns-in-Ok
returns-in-Ok c =
    let told = rw (c.plan-p.ensures, c.card-k.ensures) at c.tick.ensures in
    let e = sym told.0 ∙ c.in-Ok.is in (
      code-done _ e,
      c.put_card.ensures ∙ ap (λ (x : Card). with_card x c.args.card.now) told.1 ∙ card-given _ e _ _,
      ap (λ (x : Card). x.bins) told.1 ∙ bins-given _ e _ _,
      told.2,
    )

pub returns-in-Err : goal.returns-in-Err
returns-in-Err c =
    let told = rw (c.plan-p.ensures, c.card-k.ensures) at c.tick.ensures in
    let e = sym told.0 ∙ c.in-Err.is in
    (c.code.ensures ∙ code-refused _ e, card-kept _ e _ _, bins-kept _ e _ _, told.2)
