-- `ragbasalt_single_frame` meets its contract: what the call that it wraps gives, of what the words are.
use mathlib.Core.Path.{sym, ap, ◌∙◌}
use Rattle.memory.specs.declared.Memory.{Memory}
use Rattle.system_words.specs.Words.{with_memory}
use Rattle.system_words.proofs.GivenLaws.{code-done, code-refused, memory-given, memory-kept}
use Rattle.ragbasalt_node.proofs.ragbasalt_single_frame.Goals as goal

pub returns-in-Ok : goal.returns-in-Ok
returns-in-Ok c =
    let told = rw (c.plan-p.ensures, c.memory-m.ensures) at c.frame.ensures in
    let e = sym told.0 ∙ c.in-Ok.is in
    (code-done _ e, c.put_memory.ensures ∙ ap (λ (m : Memory). with_memory m 0 c.args.memory.now) told.1 ∙ memory-given _ e _ _, told.2)

pub returns-in-Err : goal.returns-in-Err
returns-in-Err c =
    let told = rw (c.plan-p.ensures, c.memory-m.ensures) at c.frame.ensures in
    let e = sym told.0 ∙ c.in-Err.is in
    (c.code.ensures ∙ code-refused _ e, memory-kept _ e _ _, told.2)
