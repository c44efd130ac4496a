-- `ragbasalt_system_frame` meets its contract: what the call that it wraps gives, of what the words are.
use Rattle.std.specs.Result.{result_unwrap_or}
use mathlib.Core.Path.{sym, ap, ap₂, ◌∙◌}
use Prim.Native.Nat.{ℕ}
use Rattle.plan.specs.declared.Plan.{Plan}
use Rattle.system.specs.declared.System.{System}
use Rattle.system_words.specs.Words.{with_system}
use Rattle.system_words.proofs.GivenLaws.{code-done, code-refused, system-given, system-kept}
use Rattle.ragbasalt_system.proofs.FrameLaws.{nodes-few}
use Rattle.ragbasalt_system.proofs.ragbasalt_system_frame.Goals as goal

pub put_system-requires : goal.put_system-requires
put_system-requires c = nodes-few _ _ _ _ _ _ (sym c.frame.ensures.0 ∙ c.in-Ok.is)

pub returns-in-Ok : goal.returns-in-Ok
returns-in-Ok c =
    let told = rw (c.plan-p.ensures, c.system-s.ensures) at c.frame.ensures in
    let e = sym told.0 ∙ c.in-Ok.is in
    let nodes = ap (λ (p : Plan). p.nodes) c.plan-p.ensures in (
      code-done _ e,
      c.put_system.ensures ∙ ap₂ (λ (n : ℕ) (s : System). with_system n s c.args.system.now) nodes told.1 ∙ system-given _ e _ _ _,
      told.2,
      sym (ap (λ given. result_unwrap_or given 0) e),
    )

pub returns-in-Err : goal.returns-in-Err
returns-in-Err c =
    let told = rw (c.plan-p.ensures, c.system-s.ensures) at c.frame.ensures in
    let e = sym told.0 ∙ c.in-Err.is in
    (c.code.ensures ∙ code-refused _ e, system-kept _ e _ _ _, told.2, sym (ap (λ given. result_unwrap_or given 0) e))
