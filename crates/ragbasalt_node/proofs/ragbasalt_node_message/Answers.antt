-- `ragbasalt_node_message` meets its contract: what the call that it wraps gives, of what the words are.
use mathlib.Core.Path.{sym, ◌∙◌}
use Rattle.system_words.proofs.GivenLaws.{code-done, code-refused}
use Rattle.ragbasalt_node.proofs.ragbasalt_node_message.Goals as goal

pub returns-in-Ok : goal.returns-in-Ok
returns-in-Ok c =
    let told = rw (c.plan-p.ensures, c.memory-m.ensures) at c.message.ensures in
    let e = sym told.0 ∙ c.in-Ok.is in
    (code-done _ e, told.1)

pub returns-in-Err : goal.returns-in-Err
returns-in-Err c =
    let told = rw (c.plan-p.ensures, c.memory-m.ensures) at c.message.ensures in
    let e = sym told.0 ∙ c.in-Err.is in
    (c.code.ensures ∙ code-refused _ e, told.1)
