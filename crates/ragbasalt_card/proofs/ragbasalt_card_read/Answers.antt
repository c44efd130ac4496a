-- `ragbasalt_card_read` meets its contract: what the call that it wraps gives, of what the words are.
use mathlib.Core.Path.{sym, ap, ◌∙◌}
use Rattle.std.specs.Result.{result_unwrap_or}
use Rattle.plan_words.specs.Words.{plan_of_words}
use Rattle.system_words.proofs.GivenLaws.{code-done, code-refused}
use Rattle.ragbasalt_card.proofs.WordsLaws.{read_alike}
use Rattle.ragbasalt_card.proofs.ragbasalt_card_read.Goals as goal

pub returns-in-Ok : goal.returns-in-Ok
returns-in-Ok c bytes =
    let told = rw (c.plan-p.ensures, c.bare-k.ensures) at c.read.ensures in
    let e = sym (told ∙ read_alike (plan_of_words c.args.plan.now) c.args.card.now _ bytes c.args.at) ∙ c.in-Ok.is in
    (code-done _ e, sym (ap (λ given. result_unwrap_or given 0) e))

pub returns-in-Err : goal.returns-in-Err
returns-in-Err c bytes =
    let told = rw (c.plan-p.ensures, c.bare-k.ensures) at c.read.ensures in
    let e = sym (told ∙ read_alike (plan_of_words c.args.plan.now) c.args.card.now _ bytes c.args.at) ∙ c.in-Err.is in
    (c.code.ensures ∙ code-refused _ e, sym (ap (λ given. result_unwrap_or given 0) e))
