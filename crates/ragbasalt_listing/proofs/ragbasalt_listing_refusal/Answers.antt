-- `ragbasalt_listing_refusal` meets its contract: what the call that it wraps gives, of what the words are.
use mathlib.Core.Path.{sym, ap, ◌∙◌}
use Rattle.std.specs.Result.{result_unwrap_or}
use Rattle.system_words.proofs.GivenLaws.{code-done, code-refused}
use Rattle.ragbasalt_listing.proofs.ragbasalt_listing_refusal.Goals as goal

pub returns-in-Ok : goal.returns-in-Ok
returns-in-Ok c =
    let told = rw c.with_number-refused.ensures at c.refusal-written.ensures in
    (code-done _ (sym told.0 ∙ c.in-Ok.is), told.1, c.unwrap_or.ensures ∙ ap (λ given. result_unwrap_or given 0) told.0)

pub returns-in-Err : goal.returns-in-Err
returns-in-Err c =
    let told = rw c.with_number-refused.ensures at c.refusal-written.ensures in
    (c.code.ensures ∙ code-refused _ (sym told.0 ∙ c.in-Err.is), told.1, c.unwrap_or.ensures ∙ ap (λ given. result_unwrap_or given 0) told.0)
