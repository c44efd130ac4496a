-- `ragbasalt_system_equal` meets its contract: what the call that it wraps gives, of what the words are.
use Rattle.std.specs.Result.{result_unwrap_or}
use mathlib.Core.Path.{sym, ap, ◌∙◌}
use Rattle.system_words.proofs.GivenLaws.{code-done, code-refused}
use Rattle.ragbasalt_system.proofs.ragbasalt_system_equal.Goals as goal

pub returns-in-Ok : goal.returns-in-Ok
returns-in-Ok c =
    let e = rw (c.plan-p.ensures, c.system-s.ensures, c.memory-m.ensures) at (sym c.equal.ensures ∙ c.in-Ok.is) in
    (code-done _ e, sym (ap (λ given. result_unwrap_or given 0) e))

pub returns-in-Err : goal.returns-in-Err
returns-in-Err c =
    let e = rw (c.plan-p.ensures, c.system-s.ensures, c.memory-m.ensures) at (sym c.equal.ensures ∙ c.in-Err.is) in
    (c.code.ensures ∙ code-refused _ e, sym (ap (λ given. result_unwrap_or given 0) e))
